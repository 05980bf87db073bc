-- Where the judge of a certificate stands once the number of its kind is read: the certificate's frame is right.
use Rattle.std.specs.Prelude.{ℕ, ◌≡◌, List}
use Rattle.endian.specs.Numbers.{little_at}
use Rattle.record_check.specs.Framing.{Framed}

pub record Past (certificate : List ℕ) (number : ℕ) : Type 0 where
  pub frame_right : Framed certificate
  pub number_is : number ≡ little_at 2 certificate 4
