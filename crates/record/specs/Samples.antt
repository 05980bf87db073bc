-- Four records of 01's sample sheet, and four in which no two numbers of one form are alike: their bytes written out from 01's
-- layout, and the values that they hold.
use Rattle.std.specs.Prelude.{ℕ, List, [], ◌∷◌, ℤ, pos, negsuc, neg_ℤ}

-- a record's kind number, the n and m that it has or goes with, its bytes, and its list of values
pub record Sample : Type 0 where
  pub kind : ℕ
  pub n : ℕ
  pub m : ℕ
  pub bytes : List ℕ
  pub values : List ℤ

-- -k
abbrev pub − : ℕ → ℤ
− k = neg_ℤ (pos k)

-- -1
abbrev −1 : ℤ
−1 = negsuc 0

-- -2
abbrev −2 : ℤ
−2 = negsuc 1

-- P over (p, q): -p + q <= -2; -p + p' <= -1; q - q' <= 0
unfoldable pub P : Sample
P =
    record {
      kind = 1;
      n = 2;
      m = 3;
      bytes =
          42 ∷ 0 ∷ 0 ∷ 0 ∷ 1 ∷ 0 ∷ 2 ∷ 0 ∷ 3 ∷ 0
          ∷ 255 ∷ 255 ∷ 1 ∷ 0 ∷ 0 ∷ 0 ∷ 0 ∷ 0 ∷ 254 ∷ 255 ∷ 255 ∷ 255
          ∷ 255 ∷ 255 ∷ 0 ∷ 0 ∷ 1 ∷ 0 ∷ 0 ∷ 0 ∷ 255 ∷ 255 ∷ 255 ∷ 255
          ∷ 0 ∷ 0 ∷ 1 ∷ 0 ∷ 0 ∷ 0 ∷ 255 ∷ 255 ∷ 0 ∷ 0 ∷ 0 ∷ 0
          ∷ [];
      values =
          −1 ∷ pos 1 ∷ pos 0 ∷ pos 0 ∷ −2
          ∷ −1 ∷ pos 0 ∷ pos 1 ∷ pos 0 ∷ −1
          ∷ pos 0 ∷ pos 1 ∷ pos 0 ∷ −1 ∷ pos 0
          ∷ [];
    }

-- S1, P's first certificate: Y (1,0,0), Z (0,1,1)
unfoldable pub S1 : Sample
S1 =
    record {
      kind = 2;
      n = 2;
      m = 3;
      bytes = 14 ∷ 0 ∷ 0 ∷ 0 ∷ 2 ∷ 0 ∷ 1 ∷ 0 ∷ 0 ∷ 0 ∷ 0 ∷ 0 ∷ 0 ∷ 0 ∷ 1 ∷ 0 ∷ 1 ∷ 0 ∷ [];
      values = pos 1 ∷ pos 0 ∷ pos 0 ∷ pos 0 ∷ pos 1 ∷ pos 1 ∷ [];
    }

-- S7's exclusion: q 1, U -2, V 1, W 4, for a loop of three rows over one variable
unfoldable pub S7 : Sample
S7 =
    record {
      kind = 3;
      n = 1;
      m = 3;
      bytes = 16 ∷ 0 ∷ 0 ∷ 0 ∷ 3 ∷ 0 ∷ 1 ∷ 0 ∷ 254 ∷ 255 ∷ 255 ∷ 255 ∷ 1 ∷ 0 ∷ 0 ∷ 0 ∷ 4 ∷ 0 ∷ 0 ∷ 0 ∷ [];
      values = pos 1 ∷ −2 ∷ pos 1 ∷ pos 4 ∷ [];
    }

-- S10's lasso over (x, y): stem -y' <= -1; s (0,1), s0 -1, k 1, T (1), k2 1, H (0,0,1), h0 1, Y (1,0,0,0), Z (0,1,0,1)
unfoldable pub S10 : Sample
S10 =
    record {
      kind = 4;
      n = 2;
      m = 3;
      bytes =
          54 ∷ 0 ∷ 0 ∷ 0 ∷ 4 ∷ 0 ∷ 1 ∷ 0
          ∷ 0 ∷ 0 ∷ 0 ∷ 0 ∷ 0 ∷ 0 ∷ 255 ∷ 255 ∷ 255 ∷ 255 ∷ 255 ∷ 255
          ∷ 0 ∷ 0 ∷ 1 ∷ 0 ∷ 255 ∷ 255 ∷ 255 ∷ 255
          ∷ 1 ∷ 0 ∷ 1 ∷ 0
          ∷ 1 ∷ 0 ∷ 0 ∷ 0 ∷ 0 ∷ 0 ∷ 1 ∷ 0 ∷ 1 ∷ 0
          ∷ 1 ∷ 0 ∷ 0 ∷ 0 ∷ 0 ∷ 0 ∷ 0 ∷ 0
          ∷ 0 ∷ 0 ∷ 1 ∷ 0 ∷ 0 ∷ 0 ∷ 1 ∷ 0
          ∷ [];
      values =
          pos 1
          ∷ pos 0 ∷ pos 0 ∷ pos 0 ∷ −1 ∷ −1
          ∷ pos 0 ∷ pos 1 ∷ −1
          ∷ pos 1 ∷ pos 1
          ∷ pos 1 ∷ pos 0 ∷ pos 0 ∷ pos 1 ∷ pos 1
          ∷ pos 1 ∷ pos 0 ∷ pos 0 ∷ pos 0
          ∷ pos 0 ∷ pos 1 ∷ pos 0 ∷ pos 1
          ∷ [];
    }

-- ---- records in which no two numbers of one form are alike, so that no two fields and no two lists can be exchanged unseen

-- A loop over two variables: -5x + 8y - 2x' + y' <= -3; 5x - 7y + 2x' + 4y' <= 2; -4x + 6y + 3x' - 9y' <= -1
unfoldable pub unlike_loop : Sample
unlike_loop =
    record {
      kind = 1;
      n = 2;
      m = 3;
      bytes =
          42 ∷ 0 ∷ 0 ∷ 0 ∷ 1 ∷ 0 ∷ 2 ∷ 0 ∷ 3 ∷ 0
          ∷ 251 ∷ 255 ∷ 8 ∷ 0 ∷ 254 ∷ 255 ∷ 1 ∷ 0 ∷ 253 ∷ 255 ∷ 255 ∷ 255
          ∷ 5 ∷ 0 ∷ 249 ∷ 255 ∷ 2 ∷ 0 ∷ 4 ∷ 0 ∷ 2 ∷ 0 ∷ 0 ∷ 0
          ∷ 252 ∷ 255 ∷ 6 ∷ 0 ∷ 3 ∷ 0 ∷ 247 ∷ 255 ∷ 255 ∷ 255 ∷ 255 ∷ 255
          ∷ [];
      values =
          − 5 ∷ pos 8 ∷ −2 ∷ pos 1 ∷ − 3
          ∷ pos 5 ∷ − 7 ∷ pos 2 ∷ pos 4 ∷ pos 2
          ∷ − 4 ∷ pos 6 ∷ pos 3 ∷ − 9 ∷ −1
          ∷ [];
    }

-- its ranking: Y (6,3,2), Z (4,5,7)
unfoldable pub unlike_ranking : Sample
unlike_ranking =
    record {
      kind = 2;
      n = 2;
      m = 3;
      bytes =
          14 ∷ 0 ∷ 0 ∷ 0 ∷ 2 ∷ 0
          ∷ 6 ∷ 0 ∷ 3 ∷ 0 ∷ 2 ∷ 0
          ∷ 4 ∷ 0 ∷ 5 ∷ 0 ∷ 7 ∷ 0
          ∷ [];
      values =
          pos 6 ∷ pos 3 ∷ pos 2
          ∷ pos 4 ∷ pos 5 ∷ pos 7
          ∷ [];
    }

-- an exclusion over two variables, for four rows: q 1, U (1,8), V (3,-5), W (7,-3)
unfoldable pub unlike_exclusion : Sample
unlike_exclusion =
    record {
      kind = 3;
      n = 2;
      m = 4;
      bytes =
          28 ∷ 0 ∷ 0 ∷ 0 ∷ 3 ∷ 0
          ∷ 1 ∷ 0
          ∷ 1 ∷ 0 ∷ 0 ∷ 0 ∷ 8 ∷ 0 ∷ 0 ∷ 0
          ∷ 3 ∷ 0 ∷ 0 ∷ 0 ∷ 251 ∷ 255 ∷ 255 ∷ 255
          ∷ 7 ∷ 0 ∷ 0 ∷ 0 ∷ 253 ∷ 255 ∷ 255 ∷ 255
          ∷ [];
      values =
          pos 1
          ∷ pos 1 ∷ pos 8
          ∷ pos 3 ∷ − 5
          ∷ pos 7 ∷ − 3
          ∷ [];
    }

-- a lasso with two stem rows, 3x - 9y - x' + y' <= 10 and -4x + 12y - 10x' + 10y' <= 15, for three rows: s (2,-2), s0 5, k 17, T
-- (4,3), k2 10, H (18,16,9), h0 13, Y (14,12,6,15), Z (11,8,5,19)
unfoldable pub unlike_lasso : Sample
unlike_lasso =
    record {
      kind = 4;
      n = 2;
      m = 3;
      bytes =
          68 ∷ 0 ∷ 0 ∷ 0 ∷ 4 ∷ 0
          ∷ 2 ∷ 0
          ∷ 3 ∷ 0 ∷ 247 ∷ 255 ∷ 255 ∷ 255 ∷ 1 ∷ 0 ∷ 10 ∷ 0 ∷ 0 ∷ 0
          ∷ 252 ∷ 255 ∷ 12 ∷ 0 ∷ 246 ∷ 255 ∷ 10 ∷ 0 ∷ 15 ∷ 0 ∷ 0 ∷ 0
          ∷ 2 ∷ 0 ∷ 254 ∷ 255
          ∷ 5 ∷ 0 ∷ 0 ∷ 0
          ∷ 17 ∷ 0
          ∷ 4 ∷ 0 ∷ 3 ∷ 0
          ∷ 10 ∷ 0
          ∷ 18 ∷ 0 ∷ 16 ∷ 0 ∷ 9 ∷ 0
          ∷ 13 ∷ 0
          ∷ 14 ∷ 0 ∷ 12 ∷ 0 ∷ 6 ∷ 0 ∷ 15 ∷ 0
          ∷ 11 ∷ 0 ∷ 8 ∷ 0 ∷ 5 ∷ 0 ∷ 19 ∷ 0
          ∷ [];
      values =
          pos 2
          ∷ pos 3 ∷ − 9 ∷ −1 ∷ pos 1 ∷ pos 10
          ∷ − 4 ∷ pos 12 ∷ − 10 ∷ pos 10 ∷ pos 15
          ∷ pos 2 ∷ −2
          ∷ pos 5
          ∷ pos 17
          ∷ pos 4 ∷ pos 3
          ∷ pos 10
          ∷ pos 18 ∷ pos 16 ∷ pos 9
          ∷ pos 13
          ∷ pos 14 ∷ pos 12 ∷ pos 6 ∷ pos 15
          ∷ pos 11 ∷ pos 8 ∷ pos 5 ∷ pos 19
          ∷ [];
    }
