-- What the internal functions ask and promise. No public call's contract cites these. Definitions only. Assumes nothing.
use Rattle.std.specs.Prelude.{◌≡◌, ◌↔◌, Bool, true, false, List, ℕ, ◌<◌}
use Rattle.word.specs.Bit.{word_bits, bit, has_bit}
use Rattle.answer.specs.declared.Answer.{Answer}
use Rattle.answer.specs.Table.{First}
use Rattle.answer.specs.Answers.{decided, answered}
use Rattle.sheet_theory.specs.Layout.{count_at, set_bits, redone}
use Rattle.sheet_theory.specs.Lent.{Lent}
use Rattle.edit_counts.specs.declared.edges.EdgesAt.{EdgesAt}
use Rattle.edit.specs.declared.Named.{Named}
use Rattle.edit.specs.declared.Named.TheVariants.{One, At}
use Rattle.edit_theory.specs.Edit.{Edges, one, at, Edit, edges_edit, one_if, marked}
use Rattle.edit_theory.specs.Book.{opened}
use Rattle.edit_theory.specs.Table.{SomeOf, most_parallel, effects}
use Rattle.edit_theory.specs.Outcome.{edited_row, edited, edit_grounds, edit_words, edit_made}

-- ---- the core

-- the edges that are named, and the edit that inserts or deletes them
abbrev pub edges_of : Named → Edges
edges_of (One u v) = one u v
edges_of (At v predecessors successors) = at v predecessors successors

abbrev pub edit_of : Bool → ℕ → Named → Edit
edit_of inserts n named = record { inserts = inserts; vertices = n; edges = edges_of named }

-- k is the number of the first condition on s that holds, from 5 on, of the edit at v by the masks a and b
unfoldable pub EditNumber : Bool → ℕ → Lent → ℕ → ℕ → ℕ → ℕ → Type 0
EditNumber inserts n s v a b k = First (effects inserts n most_parallel (at v a b) (opened n s) (edit_grounds (edges_edit inserts n v a b) s)) k

-- the edit at v by the masks a and b has made t of s, and x is the number of set bits in all rows of t
pub record Written (inserts : Bool) (n : ℕ) (s : List ℕ) (v a b x : ℕ) (t : List ℕ) : Type 0 where
  pub words : t ≡ edited inserts n s v a b
  pub value : x ≡ set_bits n (edited inserts n s v a b)

-- e on s answers r and leaves t, where Number says which number it has
pub record Made (Number : ℕ → Type 0) (e : Edit) (s : Lent) (r : Answer) (t : Lent) : Type 0 where
  pub number : Number r.number
  pub answers : r ≡ answered r.number (set_bits e.vertices (edit_words e s))
  pub leaves : t ≡ decided r.number (edit_made e s) s

-- the edit that has the edges x, once 1 to 4 are past, on s answers r and leaves t
abbrev pub MadeAt : EdgesAt → Lent → Answer → Lent → Type 0
MadeAt x s r t =
    Made (EditNumber x.inserts x.n s x.v x.predecessors x.successors) (edges_edit x.inserts x.n x.v x.predecessors x.successors) s r t

-- ---- checks

-- the bits of r are those of the row at which an edge would be refused: set where an insertion finds an edge and a deletion none
abbrev pub RefusedBits : Bool → ℕ → ℕ → Type 0
RefusedBits inserts row r = (j : ℕ) → j < word_bits → (bit r j ≡ 1) ↔ (bit row j ≡ one_if inserts)

-- Test k t means that the test answers t when it is called with k. r tells whether it answers true for some k whose bit in the mask is 1:
-- if r is true there is such a k, and if r is false the test answers false for every k whose bit is 1
pub record Tells (mask : ℕ) (Test : ℕ → Bool → Type 0) (r : Bool) : Type 0 where
  pub passes : r ≡ true → (k : ℕ) × (bit mask k ≡ 1) × Test k true
  pub fail : r ≡ false → (k : ℕ) → bit mask k ≡ 1 → Test k false

-- a count from x to a vertex of the mask is not 0
abbrev pub Meets : ℕ → List ℕ → ℕ → ℕ → Type 0
Meets n s mask x = SomeOf n mask (λ k. 0 < count_at n s x k)

-- ---- rows

-- r is the row with the bits of the mask set, or cleared
abbrev pub Marked : Bool → ℕ → ℕ → ℕ → Type 0
Marked inserts row mask r = (j : ℕ) → j < word_bits → bit r j ≡ marked inserts (has_bit mask j) (bit row j)

-- s with each row as the edit leaves it
abbrev pub rows_edited : Bool → ℕ → List ℕ → ℕ → ℕ → ℕ → List ℕ
rows_edited inserts n s v a b = redone n (edited_row inserts s v a b) (count_at n s) s
