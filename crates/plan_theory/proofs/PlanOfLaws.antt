-- The plan of a sheet: it says the edges and nothing else, 8 bytes for each, and it is read back as the records of the edges. Assumes
-- nothing.
use mathlib.Core.Path.{◌≡◌, refl, ap, ap₂, ◌∙◌}
use mathlib.Core.Logic.{inl, inr, ◌↔◌}
use mathlib.Core.Bool.{Bool, true, false, cond}
use mathlib.Core.List.{List, [], ◌∷◌, ◌++◌}
use Prim.Native.Nat.{ℕ, zero, suc, ◌+◌, ◌*◌, ◌/◌, ◌%◌, ◌≤◌, ◌<◌}
use native.Mathlib.Nat.{zero-add, suc-add}
use native.Mathlib.Omega.{arith}
use lib.Dec.{ltb}
use lib.ListN.{length, take, drop, length-append, length-drop}
use lib.Seq.{take-append-le, drop-append-le}
use Rattle.std.proofs.Common.{Ok}
use Rattle.sums.proofs.SumLaws.{sum_cong}
use Rattle.sums.proofs.GatherLaws.{gather_cong, gather_length}
use Rattle.word.specs.Bit.{has_bit}
use Rattle.word.proofs.BitLaws.{bit_cases}
use Rattle.graph.specs.Graph.{◌is_in◌}
use Rattle.graph.proofs.Lists.{gather_in, gather_of}
use Rattle.sums.specs.Gather.{gather}
use Rattle.record.specs.declared.Record.TheVariants.{Insert}
use Rattle.record.specs.Record.{Reading, insert_letter, encoded, decoded}
use Rattle.record.proofs.RecordLaws.{decoded_encoded}
use Rattle.sheet_theory.specs.Layout.{row_at, edge_at, set_bits}
use Rattle.sheet_theory.specs.Lent.{Lent}
use Rattle.sheet_theory.specs.Valid.{Valid}
use Rattle.sheet_theory.proofs.Meaning.{valid_edges_le}
use Rattle.edit_theory.specs.Edit.{one_if}
use Rattle.edit_theory.specs.Book.{opened}
use Rattle.edit_theory.specs.Model.{edge_count}
use Rattle.edit_theory.proofs.FreshLaws.{valid_modelled, fresh_value}
use Rattle.plan_theory.specs.Records.{records}
use Rattle.plan_theory.specs.PlanOf.{edge_insert, row_inserts, edge_records, edge_bytes, plan_of, edge_of}
use Rattle.plan_theory.specs.Calls.{most_bytes}
use Rattle.plan_theory.proofs.RecordsLaws.{first_records, records_first}

-- what is written is determined by the edges
pub plan_edges : (n : ℕ) (s t : Lent) → ((i j : ℕ) → i < n → j < n → edge_at s.words i j ≡ edge_at t.words i j) → plan_of n s ≡ plan_of n t
unfolding edge_bytes
plan_edges n s t h =
    gather_cong n _ _ (λ i hi. gather_cong n _ _ (λ j hj. rw (h i j hi hj)))

-- ---- the edges of a sheet as records

said_length : (s : Lent) (i j : ℕ) → length (edge_insert s i j) ≡ one_if (ltb 0 (edge_at s.words i j))
said_length s i j = elim (bit_cases (row_at s.words i) j) [ inl e ↦ rw e | inr e ↦ rw e ]

-- they are as many as the edges
edge_records_length : (n : ℕ) (s : Lent) → length (edge_records n s) ≡ edge_count (opened n s)
unfolding edge_records
edge_records_length n s =
    gather_length n (row_inserts n s) ∙ sum_cong n _ _ (λ i hi. gather_length n (edge_insert s i) ∙ sum_cong n _ _ (λ j hj. said_length s i j))

-- each of them is an edge
pub said_of : (s : Lent) (i j : ℕ) (x : Reading) → x is_in edge_insert s i j → (x ≡ Ok (Insert i j)) × (edge_at s.words i j ≡ 1)
said_of s i j x m =
    elim (bit_cases (row_at s.words i) j) [
      | inl e ↦ absurd (rw e at m)
      | inr e ↦ elim (rw e at m) [ inl q ↦ (q, e) | inr q ↦ absurd q ]
    ]

pub edge_records_of : (n : ℕ) (s : Lent) (x : Reading) → x is_in edge_records n s
    → (i : ℕ) × (i < n) × (j : ℕ) × (j < n) × (x ≡ Ok (Insert i j)) × (edge_at s.words i j ≡ 1)
unfolding edge_records
edge_records_of n s x m =
    let r = gather_of n (row_inserts n s) x m in
    let q = gather_of n (edge_insert s r.0) x r.2 in
    let p = said_of s r.0 q.0 x q.2 in
    (r.0, r.1, q.0, q.1, p.0, p.1)

pub insert_only : (u v i j : ℕ) → ◌≡◌ {A = Reading} (Ok (Insert u v)) (Ok (Insert i j)) → (u ≡ i) × (v ≡ j)
unfolding edge_of
insert_only u v i j e = (ap (λ (x : Reading). (edge_of x).0) e, ap (λ (x : Reading). (edge_of x).1) e)

-- and each edge is one of them
pub edge_records_iff : (n : ℕ) (s : Lent) (i j : ℕ) → i < n → j < n → (Ok (Insert i j) is_in edge_records n s) ↔ (edge_at s.words i j ≡ 1)
unfolding edge_records
edge_records_iff n s i j hi hj = (
  λ m.
      let r = edge_records_of n s (Ok (Insert i j)) m in
      let q = insert_only i j r.0 r.2 r.4 in
      ap₂ (λ (x y : ℕ). edge_at s.words x y) q.0 q.1 ∙ r.5,
  λ e. gather_in n (row_inserts n s) (Ok (Insert i j)) i hi (gather_in n (edge_insert s i) (Ok (Insert i j)) j hj (rw e (inl refl))),
)

-- ---- reading

-- the bytes b are the records l, one after the other
record Coded (b : List ℕ) (l : List Reading) : Type 0 where
  long : length b ≡ 8 * length l
  said : first_records (length l) b ≡ l

records_append : (m k : ℕ) (b c : List ℕ) → length b ≡ 8 * m → first_records (m + k) (b ++ c) ≡ first_records m b ++ first_records k c
unfolding first_records
records_append zero k [] c e = ap (λ (x : ℕ). first_records x c) (zero-add k)
records_append zero k (x ∷ b) c e = absurd (omega arith)
records_append (suc m) k b c e =
    let h : 8 ≤ length b = omega arith in
    ap (λ (x : ℕ). first_records x (b ++ c)) (suc-add m k)
    ∙ ap₂ (λ (x y : List ℕ). decoded x ∷ first_records (m + k) y) (take-append-le 8 b c h) (drop-append-le 8 b c h)
    ∙ ap (λ (l : List Reading). decoded (take 8 b) ∷ l) (records_append m k (drop 8 b) c (omega (arith, length-drop 8 b)))

coded_none : Coded [] []
unfolding first_records
coded_none = record { long = refl; said = refl }

coded_append : (b c : List ℕ) (l k : List Reading) → Coded b l → Coded c k → Coded (b ++ c) (l ++ k)
coded_append b c l k p q = record {
  long = omega (arith, length-append b c, length-append l k, p.long, q.long);
  said = ap (λ (x : ℕ). first_records x (b ++ c)) (length-append l k)
      ∙ records_append (length l) (length k) b c p.long
      ∙ ap₂ ◌++◌ p.said q.said;
}

coded_gather : (n : ℕ) (f : ℕ → List ℕ) (g : ℕ → List Reading) → ((i : ℕ) → i < n → Coded (f i) (g i)) → Coded (gather n f) (gather n g)
unfolding gather
coded_gather zero f g h = coded_none
coded_gather (suc n) f g h = coded_append (gather n f) (f n) (gather n g) (g n) (coded_gather n f g (λ i hi. h i (omega arith))) (h n (omega arith))

coded_edge : (t : Bool) (i j : ℕ) → i < 100 → j < 100 → Coded (cond t (encoded insert_letter i j) []) (cond t (Ok (Insert i j) ∷ []) [])
unfolding first_records
coded_edge true i j hi hj = record { long = refl; said = ap (λ (x : Reading). x ∷ []) (decoded_encoded insert_letter i j hi hj) }
coded_edge false i j hi hj = coded_none

plan_coded : (n : ℕ) (s : Lent) → n ≤ 64 → Coded (plan_of n s) (edge_records n s)
unfolding edge_bytes edge_records
plan_coded n s h = coded_gather n _ _ (λ i hi. coded_gather n _ _ (λ j hj. coded_edge (has_bit (row_at s.words i) j) i j (omega arith) (omega arith)))

-- ---- the plan is read as the edges, and is 8 bytes for each

pub plan_records : (n : ℕ) (s : Lent) → n ≤ 64 → records (plan_of n s) ≡ edge_records n s
plan_records n s h =
    let c = plan_coded n s h in
    let e : length (plan_of n s) / 8 ≡ length (edge_records n s) = omega (arith, c.long) in
    records_first (plan_of n s) ∙ (ap (λ (m : ℕ). first_records m (plan_of n s)) e ∙ c.said)

pub plan_length : (n : ℕ) (s : Lent) → Valid n s → length (plan_of n s) ≡ 8 * set_bits n s.words
plan_length n s v =
    let m = valid_modelled v in
    omega (arith, (plan_coded n s v.shape.high).long, edge_records_length n s, fresh_value m.high m.fresh)

-- so it is of a length that is read
pub plan_short : (n : ℕ) (s : Lent) → Valid n s → (length (plan_of n s) ≤ most_bytes) × (length (plan_of n s) % 8 ≡ 0)
plan_short n s v = (omega (arith, plan_length n s v, valid_edges_le n s v), omega (arith, plan_length n s v))
