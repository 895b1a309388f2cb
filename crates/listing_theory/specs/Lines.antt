-- The lines of a listing (document 01: the listing program), as bytes in ASCII. Definitions only. Assumes nothing.
use Rattle.std.specs.Prelude.{cond, not, ◌&&◌, List, [], ◌∷◌, ◌++◌, ℕ, zero, suc, ◌+◌, ◌*◌, ◌/◌, ◌%◌, ltb, eqb}
use Rattle.sums.specs.Gather.{gather}
use Rattle.text.specs.Text.{two_digits}
use Rattle.answer.specs.declared.Answer.{Answer}
use Rattle.answer.specs.Answers.{decided}
use Rattle.sheet_theory.specs.Layout.{most_vertices, count_at}
use Rattle.sheet_theory.specs.Lent.{Lent}

-- the decimal digits of x, at most m of them: those of x / 10, unless that is 0, and the last
unfoldable pub digits_up_to : ℕ → ℕ → List ℕ
digits_up_to zero x = []
digits_up_to (suc m) x = cond (ltb x 10) [] (digits_up_to m (x / 10)) ++ ((48 + x % 10) ∷ [])

-- a number of 64 bits has at most 20
unfoldable pub decimal : ℕ → List ℕ
decimal x = digits_up_to 20 x

-- `pipes X`
abbrev pub pipes_label : List ℕ
pipes_label = 112 ∷ 105 ∷ 112 ∷ 101 ∷ 115 ∷ 32 ∷ []

abbrev pub pipes_line : ℕ → List ℕ
pipes_line x = pipes_label ++ (decimal x ++ (10 ∷ []))

-- `record K refused R`
abbrev pub record_label : List ℕ
record_label = 114 ∷ 101 ∷ 99 ∷ 111 ∷ 114 ∷ 100 ∷ 32 ∷ []

abbrev pub refused_label : List ℕ
refused_label = 32 ∷ 114 ∷ 101 ∷ 102 ∷ 117 ∷ 115 ∷ 101 ∷ 100 ∷ 32 ∷ []

abbrev pub refused_line : ℕ → ℕ → List ℕ
refused_line k r = record_label ++ (decimal k ++ (refused_label ++ (decimal r ++ (10 ∷ []))))

-- i, j and the count c between them
abbrev pub count_line : ℕ → ℕ → ℕ → List ℕ
count_line i j c = two_digits i ++ (32 ∷ two_digits j ++ (32 ∷ decimal c ++ (10 ∷ [])))

-- the line of i and j in a sheet of 64 vertices, if they differ and have a count above 0
unfoldable pub pair_line : List ℕ → ℕ → ℕ → List ℕ
pair_line s i j = let c = count_at most_vertices s i j in cond (not (eqb i j) && ltb 0 c) (count_line i j c) []

-- those of i, ascending
unfoldable pub lines_from : List ℕ → ℕ → List ℕ
lines_from s i = gather most_vertices (pair_line s i)

-- all of them, ascending
unfoldable pub count_lines : List ℕ → List ℕ
count_lines s = gather most_vertices (lines_from s)

-- what is printed of a plan that is answered with r and has left s
abbrev pub printed : Answer → Lent → List ℕ
printed r s = decided r.number (pipes_line r.value ++ count_lines s.words) (refused_line r.place r.number)

-- the bytes in which all that is printed fits: 27 for the first line and for each of 64 × 64 others
abbrev pub most_listed : ℕ
most_listed = 27 + most_vertices * (most_vertices * 27)
