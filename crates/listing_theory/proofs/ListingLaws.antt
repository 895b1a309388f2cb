-- What a listing says: what reading the plan into the empty sheet of 64 vertices answers and leaves, and the numbers of paths; and how much of
-- an input it looks at. Assumes nothing.
use mathlib.Core.Path.{◌≡◌, refl, sym, ap, ap₂, subst, ◌∙◌}
use mathlib.Core.Logic.{inr}
use mathlib.Core.List.{List, [], ◌∷◌, ◌++◌}
use Prim.Native.Nat.{ℕ, suc, ◌<◌}
use native.Mathlib.Decide.{dec_lt}
use native.Mathlib.Omega.{arith}
use lib.ListN.{length, take}
use lib.Seq.{length-take-le, take_all}
use Rattle.text.specs.Text.{Put, written}
use Rattle.text.proofs.TextLaws.{put_written}
use Rattle.graph.specs.Graph.{PathsExactly}
use Rattle.graph.proofs.Lists.{exactly_only}
use Rattle.answer.specs.declared.Answer.{Answer}
use Rattle.answer.specs.Table.{◌gives◌, First}
use Rattle.answer.proofs.TableLaws.{first_only}
use Rattle.sheet_theory.specs.Layout.{most_vertices, count_at, edge_at, set_bits, empty_sheet}
use Rattle.sheet_theory.specs.Lent.{Lent, lent, empty_lent}
use Rattle.sheet_theory.specs.Valid.{Valid}
use Rattle.sheet_theory.proofs.ValidLaws.{valid_passed}
use Rattle.answer.proofs.AnswerLaws.{decided_old}
use Rattle.sheet_theory.proofs.Meaning.{empty_valid}
use Rattle.plan_theory.specs.Calls.{most_bytes, BadPlan, length_number, read_conditions, ReadPlan}
use Rattle.plan_theory.specs.PlanOf.{plan_of}
use Rattle.plan_theory.specs.Accepted.{AcceptedPlan}
use Rattle.plan_theory.proofs.LengthLaws.{length_long, length_first}
use Rattle.plan_theory.proofs.Meaning.{read_accepted, read_only}
use Rattle.plan_theory.proofs.RoundTrip.{round_trip}
use Rattle.listing_theory.specs.Lines.{pipes_line, refused_line, count_line, pair_line, count_lines, printed}
use Rattle.listing_theory.specs.Listing.{listed_answer, listed_sheet, listing, input_bytes}
use Rattle.listing_theory.proofs.LineLaws.{pair_hidden, pair_shown}

-- ---- the reading that is listed

-- the length decides 13, and nothing before it holds of the empty sheet
listing_first : (plan : List ℕ) → First (read_conditions most_vertices (empty_lent most_vertices) plan) (length_number (length plan))
listing_first plan =
    valid_passed most_vertices (empty_lent most_vertices) (empty_valid most_vertices (omega arith) (omega arith))
    (BadPlan plan gives 13 ∷ []) (length_number (length plan)) (length_first plan)

-- THE READING: what is listed is what reading the plan into the empty sheet answers and leaves
pub listing_reads : (plan : List ℕ) → ReadPlan most_vertices (empty_lent most_vertices) plan (listed_answer plan) (listed_sheet plan)
listing_reads plan = record { k = length_number (length plan); first = listing_first plan; answers = refl; leaves = refl }

-- which answers and leaves nothing else
pub listed_only : (plan : List ℕ) (r : Answer) (t : Lent) → ReadPlan most_vertices (empty_lent most_vertices) plan r t
    → (r ≡ listed_answer plan) × (t ≡ listed_sheet plan)
listed_only plan r t h = read_only most_vertices (empty_lent most_vertices) plan r (listed_answer plan) t (listed_sheet plan) h (listing_reads plan)

-- `list`: s is the empty sheet, which reading the plan has turned into t
module _ (plan s : List ℕ) (empty : s ≡ empty_sheet most_vertices) (r : Answer) (t : Lent) (read : ReadPlan most_vertices (lent s) plan r t) where
  listed : printed r t ≡ listing plan
  unfolding listing
  listed =
      let e = listed_only plan r t (subst (λ (x : List ℕ). ReadPlan most_vertices (lent x) plan r t) empty read) in
      ap₂ printed e.0 e.1

  module _ (out l : List ℕ) (p : ℕ) (put : Put out 0 (printed r t) l p) where
    all : (p ≡ length (listing plan)) × (l ≡ written (listing plan) out)
    all = put_written out (listing plan) l p (subst (λ (b : List ℕ). Put out 0 b l p) listed put)

    pub list_count : p ≡ length (listing plan)
    list_count = all.0

    pub list_bytes : l ≡ written (listing plan) out
    list_bytes = all.1

-- ---- what it says

-- of a plan that is refused: the place and the number
pub listing_refused : (plan : List ℕ) → ¬ ((listed_answer plan).number ≡ 0)
    → listing plan ≡ refused_line (listed_answer plan).place (listed_answer plan).number
unfolding listing
listing_refused plan d = decided_old (listed_answer plan).number _ _ d

-- of one that is too long: 0 and 13, whatever it consists of
pub listing_long : (plan : List ℕ) → most_bytes < length plan → listing plan ≡ refused_line 0 13
unfolding listing
listing_long plan h = rw (first_only (BadPlan plan gives 13 ∷ []) (length_number (length plan)) 13 (length_first plan) (length_long plan h))

-- so a program that reads so many bytes lists the whole input
pub listing_cut : (input : List ℕ) → listing (take input_bytes input) ≡ listing input
listing_cut input =
    elim (dec_lt most_bytes (length input)) [
      | yes l ↦ listing_long (take input_bytes input) (omega (arith, length-take-le input_bytes input (omega arith))) ∙ sym (listing_long input l)
      | no s ↦ ap listing (take_all input_bytes input (omega arith))
    ]

-- of one that is accepted: how many edges there are, and a line for each two vertices that differ and have a count above 0
module _ (plan : List ℕ) (z : (listed_answer plan).number ≡ 0) where
  pub listed_accepted : AcceptedPlan most_vertices (empty_lent most_vertices) plan (listed_answer plan) (listed_sheet plan)
  listed_accepted = read_accepted most_vertices (empty_lent most_vertices) plan (listed_answer plan) (listed_sheet plan) (listing_reads plan) z

  pub listing_accepted : listing plan ≡ pipes_line (set_bits most_vertices (listed_sheet plan).words) ++ count_lines (listed_sheet plan).words
  unfolding listing
  listing_accepted = ap (λ (r : Answer). printed r (listed_sheet plan)) listed_accepted.answered

-- THE LISTING OF A SHEET: what is written of a valid sheet is listed by how many edges it has and the lines of its counts
pub listing_plan : (s : Lent) → Valid most_vertices s → listing (plan_of most_vertices s) ≡ pipes_line (set_bits most_vertices s.words) ++ count_lines s.words
listing_plan s v =
    let p = plan_of most_vertices s in
    let e = round_trip most_vertices s v (listed_answer p) (listed_sheet p) (listing_reads p) in
    listing_accepted p (ap (λ (r : Answer). r.number) e.0) ∙ ap (λ (t : Lent). pipes_line (set_bits most_vertices t.words) ++ count_lines t.words) e.1

-- on a valid sheet the line of two different vertices has the number of paths between them, and there is none where there is no path
pub pair_paths : (s : Lent) (i j c : ℕ) → Valid most_vertices s → i < most_vertices → j < most_vertices → ¬ (i ≡ j)
    → PathsExactly most_vertices (edge_at s.words) i j (suc c) → pair_line s.words i j ≡ count_line i j (suc c)
pair_paths s i j c v hi hj d x =
    let e : count_at most_vertices s.words i j ≡ suc c = exactly_only (v.counts i j hi hj) x in
    pair_shown s.words i j d (omega arith) ∙ ap (count_line i j) e

pub pair_no_path : (s : Lent) (i j : ℕ) → Valid most_vertices s → i < most_vertices → j < most_vertices
    → PathsExactly most_vertices (edge_at s.words) i j 0 → pair_line s.words i j ≡ []
pair_no_path s i j v hi hj x = pair_hidden s.words i j (inr (exactly_only (v.counts i j hi hj) x))
