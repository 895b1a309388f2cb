-- A record of a plan (document 01: 8 bytes, the capital letter, a space, two digits, a space, two digits, a line feed): what is of this
-- form, and what some bytes say. Bytes are ASCII. Definitions only. Assumes nothing.
use Rattle.std.specs.Prelude.{◌≡◌, ◌⊎◌, Bool, cond, ◌&&◌, Result, Ok, Err, List, [], ◌∷◌, ◌++◌, ℕ, ◌+◌, ◌-◌, ◌*◌, ◌<◌, leb, eqb, length, get_or}
use Rattle.text.specs.Text.{two_digits}
use Rattle.record.specs.declared.Malformed.{Malformed}
use Rattle.record.specs.declared.Record.{Record}
use Rattle.record.specs.declared.Record.TheVariants.{Insert, Delete}

-- ---- the form

-- the bytes of a record
abbrev pub record_bytes : ℕ
record_bytes = 8

-- the letters, L and T
abbrev pub insert_letter : ℕ
insert_letter = 76

abbrev pub delete_letter : ℕ
delete_letter = 84

-- the record of a letter and two numbers below 100
abbrev pub encoded : ℕ → ℕ → ℕ → List ℕ
encoded letter u v = letter ∷ 32 ∷ two_digits u ++ (32 ∷ two_digits v ++ (10 ∷ []))

-- b is the record of the letter and of u and v
abbrev pub IsRecord : List ℕ → ℕ → ℕ → ℕ → Type 0
IsRecord b letter u v = (u < 100) × (v < 100) × (b ≡ encoded letter u v)

-- b is of the form: the record of a letter L or T and two numbers below 100
abbrev pub OfForm : List ℕ → Type 0
OfForm b = (u : ℕ) × (v : ℕ) × (IsRecord b insert_letter u v ⊎ IsRecord b delete_letter u v)

-- what is read of some bytes: a record, or that they are malformed
abbrev pub Reading : Type 0
Reading = Result Record Malformed

abbrev pub malformed : Malformed
malformed = record {}

-- b says r: it is the record of r; or it is malformed, that is, not of the form
abbrev pub Says : List ℕ → Reading → Type 0
Says b (Ok (Insert u v)) = IsRecord b insert_letter u v
Says b (Ok (Delete u v)) = IsRecord b delete_letter u v
Says b (Err e) = ¬ (OfForm b)

-- document 01's number for each case
abbrev pub record_number : Reading → ℕ
record_number (Ok x) = 0
record_number (Err e) = 14

-- ---- reading, byte by byte

-- whether both bytes are decimal digits, from `0` to `9`
unfoldable pub are_digits : ℕ → ℕ → Bool
are_digits tens ones = leb 48 tens && (leb tens 57 && (leb 48 ones && leb ones 57))

-- what two digits write
abbrev pub from_digits : ℕ → ℕ → ℕ
from_digits tens ones = 10 * (tens - 48) + (ones - 48)

-- what the letter and the two numbers say
abbrev pub by_letter : ℕ → ℕ → ℕ → Reading
by_letter letter u v = cond (eqb letter insert_letter) (Ok (Insert u v)) (cond (eqb letter delete_letter) (Ok (Delete u v)) (Err malformed))

-- whether the bytes after the letter are as in a record, and what they all say if so: at gives a byte by its place
abbrev pub rest_fits : (ℕ → ℕ) → Bool
rest_fits at = eqb (at 1) 32 && (eqb (at 4) 32 && (eqb (at 7) 10 && (are_digits (at 2) (at 3) && are_digits (at 5) (at 6))))

abbrev pub said : (ℕ → ℕ) → Reading
said at = by_letter (at 0) (from_digits (at 2) (at 3)) (from_digits (at 5) (at 6))

-- what b says
unfoldable pub decoded : List ℕ → Reading
decoded b = let at : ℕ → ℕ = λ i. get_or b i 0 in cond (eqb (length b) record_bytes && rest_fits at) (said at) (Err malformed)
