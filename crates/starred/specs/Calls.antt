-- The thirteen calls of document 01's table and the maker of the sheet's type, as `EveryCall` speaks of them, and what their contracts say.
-- Definitions only. Assumes nothing.
use Rattle.std.specs.Prelude.{◌≡◌, List, ℕ, length}
use Rattle.answer.specs.declared.Answer.{Answer}
use Rattle.sheet_theory.specs.Layout.{most_vertices, empty_sheet}
use Rattle.sheet_theory.specs.Lent.{Lent}
use Rattle.sheet_theory.specs.Calls.{empty_answer, empty_after, path_count_answer}
use Rattle.recount_theory.specs.Calls.{Recount, Validate}
use Rattle.edit_theory.specs.Edit.{insert_edge, delete_edge, insert_edges_at, delete_edges_at}
use Rattle.edit_theory.specs.Outcome.{edit_answer, edit_after}
use Rattle.query_theory.specs.ReachesWithout.{reaches_without_answer}
use Rattle.query_theory.specs.Unrank.{unrank_answer, unrank_after}
use Rattle.query_theory.specs.Rank.{rank_answer}
use Rattle.plan_theory.specs.Calls.{ReadPlan, WritePlan}

-- For each call, what may come of it: the answer r, and what it leaves, t of a sheet s or `after` of a buffer `before`. The arguments are
-- those of the call in its order; what a call only reads stays as it is. The last is `Sheet::new`, the maker of the sheet's type, and the
-- words that it gives.
pub record Calls : Type 1 where
  pub empty : (n : ℕ) (s : Lent) (r : Answer) (t : Lent) → Type 0
  pub insert_edge : (n : ℕ) (s : Lent) (from to : ℕ) (r : Answer) (t : Lent) → Type 0
  pub delete_edge : (n : ℕ) (s : Lent) (from to : ℕ) (r : Answer) (t : Lent) → Type 0
  pub insert_edges_at : (n : ℕ) (s : Lent) (v predecessors successors : ℕ) (r : Answer) (t : Lent) → Type 0
  pub delete_edges_at : (n : ℕ) (s : Lent) (v predecessors successors : ℕ) (r : Answer) (t : Lent) → Type 0
  pub path_count : (n : ℕ) (s : Lent) (from to : ℕ) (r : Answer) → Type 0
  pub reaches_without : (n : ℕ) (s : Lent) (from to edge_from edge_to : ℕ) (r : Answer) → Type 0
  pub unrank : (n : ℕ) (s : Lent) (from to k : ℕ) (before : List ℕ) (r : Answer) (after : List ℕ) → Type 0
  pub rank : (n : ℕ) (s : Lent) (path : List ℕ) (r : Answer) → Type 0
  pub recount : (n : ℕ) (s : Lent) (r : Answer) (t : Lent) → Type 0
  pub validate : (n : ℕ) (s : Lent) (r : Answer) → Type 0
  pub read_plan : (n : ℕ) (s : Lent) (plan : List ℕ) (r : Answer) (t : Lent) → Type 0
  pub write_plan : (n : ℕ) (s : Lent) (before : List ℕ) (r : Answer) (after : List ℕ) → Type 0
  pub maker : (words : List ℕ) → Type 0

-- THE CONTRACTS: what the `ensures` clauses in crates/lugloquat/src/lib.rt say, and of `Sheet::new` those in crates/sheet/src/layout.rt
abbrev pub contracts : Calls
contracts = record {
  empty = λ n s r t. (r ≡ empty_answer n s) × (t ≡ empty_after n s);
  insert_edge = λ n s from to r t. (r ≡ edit_answer (insert_edge n from to) s) × (t ≡ edit_after (insert_edge n from to) s);
  delete_edge = λ n s from to r t. (r ≡ edit_answer (delete_edge n from to) s) × (t ≡ edit_after (delete_edge n from to) s);
  insert_edges_at = λ n s v predecessors successors r t.
      (r ≡ edit_answer (insert_edges_at n v predecessors successors) s) × (t ≡ edit_after (insert_edges_at n v predecessors successors) s);
  delete_edges_at = λ n s v predecessors successors r t.
      (r ≡ edit_answer (delete_edges_at n v predecessors successors) s) × (t ≡ edit_after (delete_edges_at n v predecessors successors) s);
  path_count = λ n s from to r. r ≡ path_count_answer n s from to;
  reaches_without = λ n s from to edge_from edge_to r. r ≡ reaches_without_answer n s from to edge_from edge_to;
  unrank = λ n s from to k before r after.
      (r ≡ unrank_answer n s from to k (length before)) × (after ≡ unrank_after n s from to k before);
  rank = λ n s path r. r ≡ rank_answer n s path;
  recount = λ n s r t. Recount n s r t;
  validate = λ n s r. Validate n s r;
  read_plan = λ n s plan r t. ReadPlan n s plan r t;
  write_plan = λ n s before r after. WritePlan n s before r after;
  maker = λ words. words ≡ empty_sheet most_vertices;
}

-- any answer that c allows to a call and any that d allows are equal, and so are the sheets or buffers afterwards
pub record SameCalls (c d : Calls) : Type 0 where
  pub empty : (n : ℕ) (s : Lent) (r w : Answer) (t u : Lent) → c.empty n s r t → d.empty n s w u → (r ≡ w) × (t ≡ u)
  pub insert_edge : (n : ℕ) (s : Lent) (from to : ℕ) (r w : Answer) (t u : Lent)
      → c.insert_edge n s from to r t → d.insert_edge n s from to w u → (r ≡ w) × (t ≡ u)
  pub delete_edge : (n : ℕ) (s : Lent) (from to : ℕ) (r w : Answer) (t u : Lent)
      → c.delete_edge n s from to r t → d.delete_edge n s from to w u → (r ≡ w) × (t ≡ u)
  pub insert_edges_at : (n : ℕ) (s : Lent) (v A B : ℕ) (r w : Answer) (t u : Lent)
      → c.insert_edges_at n s v A B r t → d.insert_edges_at n s v A B w u → (r ≡ w) × (t ≡ u)
  pub delete_edges_at : (n : ℕ) (s : Lent) (v A B : ℕ) (r w : Answer) (t u : Lent)
      → c.delete_edges_at n s v A B r t → d.delete_edges_at n s v A B w u → (r ≡ w) × (t ≡ u)
  pub path_count : (n : ℕ) (s : Lent) (i j : ℕ) (r w : Answer) → c.path_count n s i j r → d.path_count n s i j w → r ≡ w
  pub reaches_without : (n : ℕ) (s : Lent) (i j u v : ℕ) (r w : Answer) → c.reaches_without n s i j u v r → d.reaches_without n s i j u v w → r ≡ w
  pub unrank : (n : ℕ) (s : Lent) (i j k : ℕ) (before : List ℕ) (r w : Answer) (after other : List ℕ)
      → c.unrank n s i j k before r after → d.unrank n s i j k before w other → (r ≡ w) × (after ≡ other)
  pub rank : (n : ℕ) (s : Lent) (path : List ℕ) (r w : Answer) → c.rank n s path r → d.rank n s path w → r ≡ w
  pub recount : (n : ℕ) (s : Lent) (r w : Answer) (t u : Lent) → c.recount n s r t → d.recount n s w u → (r ≡ w) × (t ≡ u)
  pub validate : (n : ℕ) (s : Lent) (r w : Answer) → c.validate n s r → d.validate n s w → r ≡ w
  pub read_plan : (n : ℕ) (s : Lent) (plan : List ℕ) (r w : Answer) (t u : Lent) → c.read_plan n s plan r t → d.read_plan n s plan w u → (r ≡ w) × (t ≡ u)
  pub write_plan : (n : ℕ) (s : Lent) (before : List ℕ) (r w : Answer) (after other : List ℕ)
      → c.write_plan n s before r after → d.write_plan n s before w other → (r ≡ w) × (after ≡ other)
  pub maker : (words others : List ℕ) → c.maker words → d.maker others → words ≡ others
