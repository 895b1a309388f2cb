-- THE THEOREM: document 01's table, for every call. Assumes nothing.
use Prim.Native.Nat.{ℕ}
use Rattle.sheet_theory.specs.Lent.{Lent}
use Rattle.sheet_theory.proofs.InWords.{lent_words, valid_words}
use Rattle.starred.specs.Calls.{contracts}
use Rattle.starred.specs.EveryCall.{EveryCall}
use Rattle.starred.proofs.SheetFields.{maker_field, empty_field, path_count_field, recount_field, validate_field, sizes_field, bound_field}
use Rattle.starred.proofs.EditFields.{insert_field, delete_field, insert_at_field, delete_at_field}
use Rattle.starred.proofs.QueryFields.{reaches_without_field, unrank_field, rank_field}
use Rattle.starred.proofs.PlanFields.{read_plan_field, write_plan_field}

pub every_call : (n : ℕ) (s : Lent) → EveryCall contracts n s
every_call n s = record {
  words = lent_words;
  valid = valid_words n s;
  empty = λ r t h. rw (h.0, h.1) (empty_field n s);
  insert = λ u v r t h. rw (h.0, h.1) (insert_field n s u v);
  delete = λ u v r t h. rw (h.0, h.1) (delete_field n s u v);
  insert_at = λ v A B r t h. rw (h.0, h.1) (insert_at_field n s v A B);
  delete_at = λ v A B r t h. rw (h.0, h.1) (delete_at_field n s v A B);
  path_count = λ i j r h. rw h (path_count_field n s i j);
  reaches_without = λ i j u v r h. rw h (reaches_without_field n s i j u v);
  unrank = λ i j k before r after h. rw (h.0, h.1) (unrank_field n s i j k before);
  rank = λ p r h. rw h (rank_field n s p);
  recount = recount_field n s;
  validate = validate_field n s;
  read_plan = read_plan_field n s;
  write_plan = write_plan_field n s;
  maker = λ l h. rw h maker_field;
  sizes = sizes_field n s;
  bound = bound_field n;
}
