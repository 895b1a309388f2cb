-- A list of records on the sheet of a model is taken, or stops, as the model says; the model says one thing; and a list that it takes is a
-- run of its edits. Assumes nothing.
use mathlib.Core.Path.{◌≡◌, refl, sym, ap, ap₂, subst, ◌∙◌}
use mathlib.Core.Logic.{◌⊎◌, inl, inr}
use mathlib.Core.List.{List, [], ◌∷◌, ◌++◌}
use Prim.Native.Nat.{ℕ, suc, ◌+◌}
use native.Mathlib.Decide.{ℕ_discrete}
use native.Mathlib.Omega.{arith}
use lib.ListN.{length}
use Rattle.std.proofs.Common.{Ok, Err}
use Rattle.record.specs.declared.Record.TheVariants.{Insert, Delete}
use Rattle.record.specs.Record.{Reading}
use Rattle.answer.specs.declared.Answer.{Answer}
use Rattle.answer.specs.Table.{First}
use Rattle.answer.specs.Answers.{answer}
use Rattle.answer.proofs.TableLaws.{first_only}
use Rattle.answer.proofs.AnswerLaws.{decided_old}
use Rattle.edit_theory.specs.Edit.{Edit, insert_edge, delete_edge}
use Rattle.edit_theory.specs.Outcome.{edit_number, edit_after}
use Rattle.edit_theory.specs.Book.{Model}
use Rattle.edit_theory.specs.Model.{effect, model_conditions, edge_count}
use Rattle.edit_theory.proofs.FreshLaws.{Modelled}
use Rattle.edit_theory.proofs.StepLaws.{number_first, accepted_modelled}
use Rattle.edit_lists.specs.Run.{Run, done, then, answers, after}
use Rattle.sheet_theory.specs.Lent.{Lent}
use Rattle.plan_theory.specs.Records.{record_edits, edits, number_on, left_by, Applied, applied}
use Rattle.plan_theory.specs.Taken.{RecordNumber, record_effect, Taken, Stops}
use Rattle.plan_theory.specs.Accepted.{Accepted}

-- ---- one record

-- its number is the model's, and what it leaves, if it is not refused, is the sheet of what it makes of the model
record_modelled : (n : ℕ) (m : Model) (s : Lent) → Modelled m s → m.vertices ≡ n → (x : Reading)
    → RecordNumber m x (number_on n s x) × (number_on n s x ≡ 0 → Modelled (record_effect m x) (left_by n s x))
unfolding number_on
record_modelled n m s h q x = subst (λ y. RecordNumber m x (number_on y s x) × (number_on y s x ≡ 0 → Modelled (record_effect m x) (left_by y s x))) q (go x)
  where
    edit : (e : Edit) → First (model_conditions m e) (edit_number e s) × (edit_number e s ≡ 0 → Modelled (effect m e) (edit_after e s))
    edit e = let f = number_first m s h e in (f, λ z. rw z (accepted_modelled m s h e (rw z at f)).1)

    go : (x : Reading) → RecordNumber m x (number_on m.vertices s x) × (number_on m.vertices s x ≡ 0 → Modelled (record_effect m x) (left_by m.vertices s x))
    go (Ok (Insert u v)) = edit (insert_edge m.vertices u v)
    go (Ok (Delete u v)) = edit (delete_edge m.vertices u v)
    go (Err x) = (refl, λ z. h)

record_vertices : (m : Model) (x : Reading) → (record_effect m x).vertices ≡ m.vertices
record_vertices m (Ok (Insert u v)) = refl
record_vertices m (Ok (Delete u v)) = refl
record_vertices m (Err x) = refl

-- a record has one number
record_only : (m : Model) (x : Reading) (j k : ℕ) → RecordNumber m x j → RecordNumber m x k → j ≡ k
record_only m (Ok (Insert u v)) j k = first_only (model_conditions m (insert_edge m.vertices u v)) j k
record_only m (Ok (Delete u v)) j k = first_only (model_conditions m (delete_edge m.vertices u v)) j k
record_only m (Err x) j k = λ p q. p ∙ sym q

-- ---- the first record of a list

module _ (n : ℕ) (x : Reading) (l : List Reading) (s : Lent) (p : ℕ) where
  pub applied_next : number_on n s x ≡ 0 → applied n (x ∷ l) s p ≡ applied n l (left_by n s x) (suc p)
  unfolding applied
  applied_next z = rw z

  pub applied_here : ¬ (number_on n s x ≡ 0) → applied n (x ∷ l) s p ≡ record { number = number_on n s x; place = p; left = s }
  unfolding applied
  applied_here = decided_old (number_on n s x) _ _

  -- where no record is refused, the first is not
  applied_first : (applied n (x ∷ l) s p).number ≡ 0 → number_on n s x ≡ 0
  applied_first z =
      elim (ℕ_discrete (number_on n s x) 0) [ yes e ↦ e | no d ↦ sym (ap (λ (y : Applied). y.number) (applied_here d)) ∙ z ]

-- ---- no record is refused

pub applied_taken : (n : ℕ) (l : List Reading) (m : Model) (s : Lent) (p : ℕ) → Modelled m s → m.vertices ≡ n → (applied n l s p).number ≡ 0
    → (m' : Model) × Taken m l m' × Modelled m' (applied n l s p).left × (m'.vertices ≡ n)
unfolding applied Taken
applied_taken n [] m s p h q z = (m, refl, h, q)
applied_taken n (x ∷ l) m s p h q z =
    let k = applied_first n x l s p z in
    let e = applied_next n x l s p k in
    let f = record_modelled n m s h q x in
    let r = applied_taken n l (record_effect m x) (left_by n s x) (suc p) (f.1 k) (record_vertices m x ∙ q) (rw e at z) in
    (r.0, (subst (RecordNumber m x) k f.0, r.1), rw e r.2, r.3)

pub applied_place : (n : ℕ) (l : List Reading) (s : Lent) (p : ℕ) → (applied n l s p).number ≡ 0 → (applied n l s p).place ≡ 0
unfolding applied
applied_place n [] s p z = refl
applied_place n (x ∷ l) s p z =
    let e = applied_next n x l s p (applied_first n x l s p z) in rw e (applied_place n l (left_by n s x) (suc p) (rw e at z))

-- ---- the edits of the records

record_after : (n : ℕ) (x : Reading) (es : List Edit) (s : Lent) → after (record_edits n x ++ es) s ≡ after es (left_by n s x)
unfolding after
record_after n (Ok (Insert u v)) es s = refl
record_after n (Ok (Delete u v)) es s = refl
record_after n (Err x) es s = refl

record_answers : (n : ℕ) (x : Reading) (es : List Edit) (s : Lent) (l : List Reading) → number_on n s x ≡ 0 → Accepted l (answers es (left_by n s x))
    → Accepted (x ∷ l) (answers (record_edits n x ++ es) s)
unfolding answers number_on
record_answers n (Ok (Insert u v)) es s l z a = ap₂ ◌∷◌ z a
record_answers n (Ok (Delete u v)) es s l z a = ap₂ ◌∷◌ z a
record_answers n (Err x) es s l z a = absurd (omega arith)

-- records of which none is refused leave what their edits leave, and each has an edit, which is accepted
pub applied_after : (n : ℕ) (l : List Reading) (s : Lent) (p : ℕ) → (applied n l s p).number ≡ 0
    → ((applied n l s p).left ≡ after (edits n l) s) × Accepted l (answers (edits n l) s)
unfolding applied edits after answers
applied_after n [] s p z = (refl, refl)
applied_after n (x ∷ l) s p z =
    let k = applied_first n x l s p z in
    let e = applied_next n x l s p k in
    let r = applied_after n l (left_by n s x) (suc p) (rw e at z) in
    (rw e (r.0 ∙ sym (record_after n x (edits n l) s)), record_answers n x (edits n l) s l k r.1)

-- ---- a record is refused

-- the first of a list, and a later one
stops_first : (m : Model) (x : Reading) (l : List Reading) (k : ℕ) → RecordNumber m x k → ¬ (k ≡ 0) → Stops m (x ∷ l) k 1
unfolding Taken
stops_first m x l k f d = record { before = []; at = x; rest = l; split = refl; place = refl; model = m; taken = refl; number = f; refused = d }

stops_later : (m : Model) (x : Reading) (l : List Reading) (k p : ℕ) → RecordNumber m x 0 → Stops (record_effect m x) l k p → Stops m (x ∷ l) k (suc p)
unfolding Taken
stops_later m x l k p f o = record {
  before = x ∷ o.before;
  at = o.at;
  rest = o.rest;
  split = ap (λ t. x ∷ t) o.split;
  place = ap suc o.place;
  model = o.model;
  taken = (f, o.taken);
  number = o.number;
  refused = o.refused;
}

-- the place counts on from the first record's
stops_from : (n : ℕ) (l : List Reading) (m : Model) (s : Lent) (p : ℕ) → Modelled m s → m.vertices ≡ n → ¬ ((applied n l s (suc p)).number ≡ 0)
    → (i : ℕ) × ((applied n l s (suc p)).place ≡ p + i) × Stops m l (applied n l s (suc p)).number i
unfolding applied
stops_from n [] m s p h q d = absurd (d refl)
stops_from n (x ∷ l) m s p h q d =
    let f = record_modelled n m s h q x in
    elim (ℕ_discrete (number_on n s x) 0) [
      | no c ↦ rw (applied_here n x l s (suc p) c) (1, omega arith, stops_first m x l (number_on n s x) f.0 c)
      | yes k ↦
          let e = applied_next n x l s (suc p) k in
          let r = stops_from n l (record_effect m x) (left_by n s x) (suc p) (f.1 k) (record_vertices m x ∙ q) (rw e at d) in
          rw e (suc r.0, omega (arith, r.1), stops_later m x l _ r.0 (subst (RecordNumber m x) k f.0) r.2)
    ]

pub applied_stops : (n : ℕ) (l : List Reading) (m : Model) (s : Lent) → Modelled m s → m.vertices ≡ n → ¬ ((applied n l s 1).number ≡ 0)
    → Stops m l (applied n l s 1).number (applied n l s 1).place
applied_stops n l m s h q d =
    let r = stops_from n l m s 0 h q d in
    subst (Stops m l (applied n l s 1).number) (omega (arith, r.1)) r.2

-- ---- by the model alone

pub taken_only : (l : List Reading) (m m₁ m₂ : Model) → Taken m l m₁ → Taken m l m₂ → m₁ ≡ m₂
unfolding Taken
taken_only [] m m₁ m₂ p q = p ∙ sym q
taken_only (x ∷ l) m m₁ m₂ p q = taken_only l (record_effect m x) m₁ m₂ p.1 q.1

pub taken_vertices : (l : List Reading) (m m' : Model) → Taken m l m' → m'.vertices ≡ m.vertices
unfolding Taken
taken_vertices [] m m' p = ap (λ (y : Model). y.vertices) p
taken_vertices (x ∷ l) m m' p = taken_vertices l (record_effect m x) m' p.1 ∙ record_vertices m x

-- how a list stops: the empty list does not, and another at its first record or after it
abbrev Stopped : Model → List Reading → ℕ → ℕ → Type 0
Stopped m [] k p = ⊥
Stopped m (x ∷ l) k p = (RecordNumber m x k × (¬ (k ≡ 0)) × (p ≡ 1)) ⊎ (RecordNumber m x 0 × (q : ℕ) × (p ≡ suc q) × Stopped (record_effect m x) l k q)

stops_stopped : (l : List Reading) (m : Model) (k p : ℕ) → Stops m l k p → Stopped m l k p
unfolding Taken
stops_stopped l m k p o = rw (o.split, o.place) (go o.before m o.taken)
  where
    go : (b : List Reading) (m : Model) → Taken m b o.model → Stopped m (b ++ (o.at ∷ o.rest)) k (suc (length b))
    go [] m t = inl (rw (← t) o.number, o.refused, refl)
    go (y ∷ b) m t = inr (t.0, suc (length b), refl, go b (record_effect m y) t.1)

-- a list stops in one way
stopped_only : (l : List Reading) (m : Model) (k p k' p' : ℕ) → Stopped m l k p → Stopped m l k' p' → (k ≡ k') × (p ≡ p')
stopped_only [] m k p k' p' o o' = absurd o
stopped_only (x ∷ l) m k p k' p' (inl a) (inl b) = (record_only m x k k' a.0 b.0, a.2 ∙ sym b.2)
stopped_only (x ∷ l) m k p k' p' (inl a) (inr b) = absurd (a.1 (record_only m x k 0 a.0 b.0))
stopped_only (x ∷ l) m k p k' p' (inr a) (inl b) = absurd (b.1 (record_only m x k' 0 b.0 a.0))
stopped_only (x ∷ l) m k p k' p' (inr a) (inr b) =
    let r = stopped_only l (record_effect m x) k a.1 k' b.1 a.3 b.3 in (r.0, a.2 ∙ ap suc r.1 ∙ sym b.2)

pub stops_only : (l : List Reading) (m : Model) (k p k' p' : ℕ) → Stops m l k p → Stops m l k' p' → (k ≡ k') × (p ≡ p')
stops_only l m k p k' p' o o' = stopped_only l m k p k' p' (stops_stopped l m k p o) (stops_stopped l m k' p' o')

pub taken_not_stops : (l : List Reading) (m m' : Model) (k p : ℕ) → Taken m l m' → ¬ (Stops m l k p)
unfolding Taken
taken_not_stops l m m' k p t o = go l m p t (stops_stopped l m k p o)
  where
    go : (l : List Reading) (m : Model) (p : ℕ) → Taken m l m' → ¬ (Stopped m l k p)
    go [] m p t o = o
    go (x ∷ l) m p t (inl a) = a.1 (record_only m x k 0 a.0 t.0)
    go (x ∷ l) m p t (inr a) = go l (record_effect m x) a.1 t.1 a.3

-- ---- as a run

-- an edit that the model takes, before a run
edit_run : (m m' : Model) (e : Edit) (es : List Edit) (x : Reading) (l : List Reading) → First (model_conditions m e) 0
    → (rs : List Answer) × Run (effect m e) es rs m' × Accepted l rs → (rs : List Answer) × Run m (e ∷ es) rs m' × Accepted (x ∷ l) rs
edit_run m m' e es x l f r = (
  answer 0 0 (edge_count (effect m e)) ∷ r.0,
  then (record { number = f; place = refl; value = refl; after = refl }) r.1,
  ap (λ t. 0 ∷ t) r.2,
)

-- records that the model takes are a run of their edits, each accepted
pub taken_run : (n : ℕ) (l : List Reading) (m m' : Model) → m.vertices ≡ n → Taken m l m'
    → (rs : List Answer) × Run m (edits n l) rs m' × Accepted l rs
unfolding Taken edits
taken_run n [] m m' q t = ([], rw t done, refl)
taken_run n (x ∷ l) m m' q t = go x (edits n l) t.0 (taken_run n l (record_effect m x) m' (record_vertices m x ∙ q) t.1)
  where
    go : (x : Reading) (es : List Edit) → RecordNumber m x 0 → (rs : List Answer) × Run (record_effect m x) es rs m' × Accepted l rs
        → (rs : List Answer) × Run m (record_edits n x ++ es) rs m' × Accepted (x ∷ l) rs
    go (Ok (Insert u v)) es f r = rw (← q) (edit_run m m' (insert_edge m.vertices u v) es x l f r)
    go (Ok (Delete u v)) es f r = rw (← q) (edit_run m m' (delete_edge m.vertices u v) es x l f r)
    go (Err y) es f r = absurd (omega (arith, f))
