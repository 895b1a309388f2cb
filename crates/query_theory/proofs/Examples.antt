-- Questions, computed from the definitions that the contracts cite: the order of the conditions on document 01's orchard D, with five
-- vertices, and sheets that are not valid. Assumes nothing.
use mathlib.Core.Path.{◌≡◌, refl}
use mathlib.Core.List.{List, [], ◌∷◌}
use Prim.Native.Nat.{ℕ}
use Rattle.sums.specs.Sum.{sum}
use Rattle.answer.specs.Table.{first_true}
use Rattle.answer.specs.Answers.{answer}
use Rattle.sheet_theory.specs.Layout.{size}
use Rattle.sheet_theory.specs.Lent.{lent}
use Rattle.sheet_theory.proofs.Examples.{D}
use Rattle.query_theory.specs.Walk.{headed, try_edge, tried, walked}
use Rattle.query_theory.specs.PassedOver.{passed, passed_over, end}
use Rattle.query_theory.specs.ReachesWithout.{reaches_without, reaches_without_answer}
use Rattle.query_theory.specs.Unrank.{walk, unrank_answer}
use Rattle.query_theory.specs.Rank.{some_no_vertex, gap, broken, rank_answer}

-- ---- the answers

-- 10 comes before 11
pub short_buffer : unrank_answer 5 D 0 3 2 4 ≡ answer 10 0 0
unfolding D size first_true
short_buffer = refl

-- a vertex that is not there is found wherever it stands, before a missing edge
pub no_vertex : rank_answer 5 D (0 ∷ 3 ∷ 5 ∷ []) ≡ answer 3 0 0
unfolding D size first_true some_no_vertex
no_vertex = refl

-- 3 is looked for in the edge's vertices too, before 7
pub edge_no_vertex : reaches_without_answer 5 D 0 3 5 1 ≡ answer 3 0 0
unfolding D size first_true
edge_no_vertex = refl

-- 3 comes before 10
pub vertex_before_buffer : unrank_answer 5 D 5 3 2 4 ≡ answer 3 0 0
unfolding D size first_true
vertex_before_buffer = refl

-- ---- a rank that is carried on: 0 to 1, 1 to 2 and 3, 2 to 4, 3 to 4

pub carrying : List ℕ
carrying =
    2 ∷ 12 ∷ 16 ∷ 16 ∷ 0
    ∷ 1 ∷ 1 ∷ 1 ∷ 1 ∷ 2
    ∷ 0 ∷ 1 ∷ 1 ∷ 1 ∷ 2
    ∷ 0 ∷ 0 ∷ 1 ∷ 0 ∷ 1
    ∷ 0 ∷ 0 ∷ 0 ∷ 1 ∷ 1
    ∷ 0 ∷ 0 ∷ 0 ∷ 0 ∷ 1
    ∷ []

pub carried : walk 5 carrying 0 4 1 ≡ 0 ∷ 1 ∷ 3 ∷ 4 ∷ []
unfolding carrying walked tried try_edge headed
carried = refl

-- ---- sheets that are not valid

-- 0 to 1 and 2, 2 to 0, with counts by which the walk from 0 to 1 by 1 goes 0, 2, 0, 1
pub round : List ℕ
round = 6 ∷ 0 ∷ 1 ∷ 0 ∷ 2 ∷ 0 ∷ 0 ∷ 1 ∷ 0 ∷ 0 ∷ 1 ∷ 0 ∷ []

-- with three vertices it does not arrive
pub too_far : unrank_answer 3 (lent round) 0 1 1 3 ≡ answer 9 0 0
unfolding round size first_true walked tried try_edge headed
too_far = refl

-- 0 to 1 with the counts 2 ^ 32 from each vertex to itself, 0 from 1 to 0, and c from 0 to 1
pub pair : ℕ → List ℕ
pair c = 2 ∷ 0 ∷ 4294967296 ∷ c ∷ 0 ∷ 4294967296 ∷ []

-- the product is 0 modulo 2 ^ 64
pub wraps : (reaches_without_answer 2 (lent (pair 0)) 0 1 0 1 ≡ answer 0 0 0) × (reaches_without_answer 2 (lent (pair 1)) 0 1 0 1 ≡ answer 0 0 1)
unfolding pair size first_true reaches_without
wraps = (refl, refl)

-- k is not 0 on arriving
pub left_over : unrank_answer 2 (lent (pair 2)) 0 1 1 2 ≡ answer 9 0 0
unfolding pair size first_true walked tried try_edge headed
left_over = refl

-- a rank of 2 ^ 64 and more is taken modulo 2 ^ 64: 0 to 0, 1 and 2, and the counts to 2 from 0 and from 1 are 2 ^ 63 and 2 ^ 63 + 5
pub over : List ℕ
over = 7 ∷ 0 ∷ 0 ∷ 0 ∷ 0 ∷ 9223372036854775808 ∷ 0 ∷ 0 ∷ 9223372036854775813 ∷ 0 ∷ 0 ∷ 0 ∷ []

pub rank_wraps : rank_answer 3 (lent over) (0 ∷ 2 ∷ []) ≡ answer 0 0 5
unfolding over size first_true some_no_vertex broken gap passed_over passed sum end
rank_wraps = refl

-- 0 to 1 and 2, 2 to 0, and one path from 1 to 2: a list that comes to its end before it ends, and both steps there count
pub twice : List ℕ
twice =
    6 ∷ 0 ∷ 1 ∷ 0
    ∷ 0 ∷ 0 ∷ 0 ∷ 0
    ∷ 0 ∷ 0 ∷ 1 ∷ 0
    ∷ 0 ∷ 0 ∷ 0 ∷ 0
    ∷ 0 ∷ 0 ∷ 0 ∷ 0
    ∷ []

pub rank_past_its_end : rank_answer 4 (lent twice) (0 ∷ 2 ∷ 0 ∷ 2 ∷ []) ≡ answer 0 0 2
unfolding twice size first_true some_no_vertex broken gap passed_over passed sum end
rank_past_its_end = refl

-- a bit at n or above is no edge: the row of 0 has the bits 1 and 2, with two vertices
pub stray_not_tried : walk 2 (6 ∷ 0 ∷ 1 ∷ 1 ∷ 0 ∷ 1 ∷ []) 0 1 0 ≡ 0 ∷ 1 ∷ []
unfolding walked tried try_edge headed
stray_not_tried = refl
