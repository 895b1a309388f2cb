-- Records and plans, computed. Assumes nothing.
use mathlib.Core.Path.{◌≡◌, refl}
use mathlib.Core.List.{List, [], ◌∷◌, ◌++◌}
use Prim.Native.Nat.{ℕ}
use Rattle.std.proofs.Common.{Ok, Err}
use Rattle.record.specs.declared.Record.TheVariants.{Insert, Delete}
use Rattle.record.specs.Record.{are_digits, encoded, insert_letter, delete_letter, malformed, decoded}
use Rattle.record.specs.Reader.{records_from}

-- `L 00 01` and a line feed
pub inserts : decoded (76 ∷ 32 ∷ 48 ∷ 48 ∷ 32 ∷ 48 ∷ 49 ∷ 10 ∷ []) ≡ Ok (Insert 0 1)
unfolding decoded are_digits
inserts = refl

-- `T 63 07` and a line feed
pub deletes : decoded (84 ∷ 32 ∷ 54 ∷ 51 ∷ 32 ∷ 48 ∷ 55 ∷ 10 ∷ []) ≡ Ok (Delete 63 7)
unfolding decoded are_digits
deletes = refl

-- `L 0: 01`: the byte after `9` is no digit
pub no_digit : decoded (76 ∷ 32 ∷ 48 ∷ 58 ∷ 32 ∷ 48 ∷ 49 ∷ 10 ∷ []) ≡ Err malformed
unfolding decoded are_digits
no_digit = refl

-- `l 00 01`
pub small_letter : decoded (108 ∷ 32 ∷ 48 ∷ 48 ∷ 32 ∷ 48 ∷ 49 ∷ 10 ∷ []) ≡ Err malformed
unfolding decoded are_digits
small_letter = refl

-- two records and the beginning of a third
pub plan : List ℕ
plan = encoded insert_letter 0 1 ++ (encoded delete_letter 63 7 ++ (76 ∷ []))

-- a reader of them that has got to the second
pub second : records_from plan 1 ≡ Ok (Delete 63 7) ∷ Err malformed ∷ []
unfolding plan records_from decoded are_digits
second = refl
