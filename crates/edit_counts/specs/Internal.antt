-- What the internal functions that bring the counts up to date ask and promise. No public call's contract cites these. Definitions only.
-- Assumes nothing.
use Rattle.std.specs.Prelude.{◌≡◌, ◌⊎◌, ◌<◌, Bool, true, false, List, ℕ, ◌+◌, ◌*◌, ◌%◌, ◌^◌, get_or}
use Rattle.sums.specs.Sum.{sum}
use Rattle.word.specs.Bit.{bit}
use Rattle.word.specs.Wrap.{minus}
use Rattle.graph.specs.Update.{from_sum}
use Rattle.sheet_theory.specs.Layout.{row_at, count_at, redone}
use Rattle.sheet.specs.Fill.{puts}
use Rattle.edit_theory.specs.Edit.{Edit, vertex_of, predecessors_of, successors_of}
use Rattle.edit_theory.specs.Outcome.{edited_by, edited_count}

-- the edit e, at the vertex v of n by the masks a and b
pub record Names (e : Edit) (inserts : Bool) (n v a b : ℕ) : Type 0 where
  pub direction : inserts ≡ e.inserts
  pub vertices : n ≡ e.vertices
  pub vertex : v ≡ vertex_of e.edges
  pub predecessors : a ≡ predecessors_of e.edges
  pub successors : b ≡ successors_of e.edges

-- what the sum T is multiplied by: x, or f less x, modulo 2 ^ 64
unfoldable pub to_factor : Bool → ℕ → ℕ → ℕ
to_factor true x f = x
to_factor false x f = minus f x

-- what the sum F is multiplied by: t plus y, or 0 less y, modulo 2 ^ 64
unfoldable pub from_factor : Bool → ℕ → ℕ → ℕ
from_factor true t y = (t + y) % 2 ^ 64
from_factor false t y = minus 0 y

-- there are no predecessors, or u has, at each j below n, what the sum F is multiplied by in the counts to j, where t has the sums T
abbrev pub Factors : Bool → ℕ → List ℕ → ℕ → ℕ → List ℕ → List ℕ → Type 0
Factors inserts n s v a t u = (a ≡ 0) ⊎ ((j : ℕ) → j < n → get_or u j 0 ≡ from_factor inserts (get_or t j 0) (count_at n s v j))

-- the sum of those of the first n words of l whose places are in the mask, modulo 2 ^ 64
abbrev pub sum_at : ℕ → List ℕ → ℕ → ℕ
sum_at n l mask = sum n (λ k. bit mask k * get_or l k 0) % 2 ^ 64

-- l with x times t added to the first n words, modulo 2 ^ 64
abbrev pub with_multiple : ℕ → List ℕ → ℕ → List ℕ → List ℕ
with_multiple n l x t = puts l (λ j. j) (λ j. (get_or l j 0 + x * get_or t j 0) % 2 ^ 64) n

-- l, which has the counts from a vertex, with a multiple of t, and then one of u, added, by the count to v and the sum over the
-- predecessors a
abbrev pub counts_from_edited : Bool → ℕ → List ℕ → ℕ → ℕ → List ℕ → List ℕ → List ℕ
counts_from_edited inserts n l v a t u =
    let f = sum_at n l a in
    with_multiple n (with_multiple n l (to_factor inserts (get_or l v 0) f) t) f u

-- the count from i to j as the edit leaves it, where t has the sums T
abbrev pub count_by : Bool → ℕ → List ℕ → ℕ → ℕ → List ℕ → ℕ → ℕ → ℕ
count_by inserts n s v a t i j =
    let C = count_at n s in
    edited_by inserts (C i j) (C i v) (C v j) (from_sum n C (bit a) i) (get_or t j 0)

-- s with each count so
abbrev pub counts_by : Bool → ℕ → List ℕ → ℕ → ℕ → List ℕ → List ℕ
counts_by inserts n s v a t = redone n (row_at s) (count_by inserts n s v a t) s

-- s with each count as the edit leaves it
abbrev pub counts_edited : Bool → ℕ → List ℕ → ℕ → ℕ → ℕ → List ℕ
counts_edited inserts n s v a b = redone n (row_at s) (edited_count inserts n s v a b) s
