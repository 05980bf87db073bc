-- the values as the code walks them
pub mod SettlingValues
-- what is told at each return of the check
pub mod SettlingWays
-- what a sound record of kind 8 says
pub mod SettlingSound
