-- The plan of a sheet: its edges as records, ascending by from, then to, and their bytes; and the order of records. Definitions only.
-- Assumes nothing.
use Rattle.std.specs.Prelude.{cond, Ok, Err, List, [], ◌∷◌, ℕ}
use Rattle.word.specs.Bit.{has_bit}
use Rattle.sums.specs.Gather.{gather}
use Rattle.graph.specs.Ascending.{EdgeLower}
use Rattle.record.specs.declared.Record.TheVariants.{Insert, Delete}
use Rattle.record.specs.Record.{Reading, insert_letter, encoded}
use Rattle.sheet_theory.specs.Layout.{row_at}
use Rattle.sheet_theory.specs.Lent.{Lent}

-- x for the edge from i to j, if there is one, else nothing
abbrev pub if_edge : {A : Type 0} → Lent → ℕ → ℕ → List A → List A
if_edge s i j x = cond (has_bit (row_at s.words i) j) x []

-- the record of the edge from i to j, those of the edges from i, and those of all edges
abbrev pub edge_insert : Lent → ℕ → ℕ → List Reading
edge_insert s i j = if_edge s i j (Ok (Insert i j) ∷ [])

abbrev pub row_inserts : ℕ → Lent → ℕ → List Reading
row_inserts n s i = gather n (edge_insert s i)

unfoldable pub edge_records : ℕ → Lent → List Reading
edge_records n s = gather n (row_inserts n s)

-- the same in bytes
unfoldable pub edge_bytes : Lent → ℕ → ℕ → List ℕ
edge_bytes s i j = if_edge s i j (encoded insert_letter i j)

abbrev pub row_bytes : ℕ → Lent → ℕ → List ℕ
row_bytes n s i = gather n (edge_bytes s i)

abbrev pub plan_of : ℕ → Lent → List ℕ
plan_of n s = gather n (row_bytes n s)

-- ---- ascending

-- the vertices that a record's edge runs from and to; a malformed record has no edge, and 0 stands for both
unfoldable pub edge_of : Reading → ℕ × ℕ
edge_of (Ok (Insert u v)) = (u, v)
edge_of (Ok (Delete u v)) = (u, v)
edge_of (Err e) = (0, 0)

-- x comes before y: by from, then by to
abbrev pub Lower : Reading → Reading → Type 0
Lower x y = EdgeLower (edge_of x) (edge_of y)
