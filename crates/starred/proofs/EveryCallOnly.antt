-- THE PAGE LEAVES NOTHING OPEN: any two sets of calls of which `EveryCall` holds on every sheet answer and leave the same. Assumes nothing.
use Prim.Native.Nat.{ℕ, ◌^◌}
use Rattle.sheet_theory.specs.Lent.{Lent, lent}
use Rattle.starred.specs.Calls.{Calls, SameCalls}
use Rattle.starred.specs.EveryCall.{EveryCall}
use Rattle.starred.proofs.SheetOnly.{empty_line_only, path_count_line_only, recount_line_only, validate_line_only, maker_line_only}
use Rattle.starred.proofs.EditOnly.{insertion_line_only, deletion_line_only}
use Rattle.starred.proofs.QueryOnly.{reaches_without_line_only, unrank_line_only, rank_line_only}
use Rattle.starred.proofs.PlanOnly.{SameEdits, read_plan_line_only, write_plan_line_only}

module _ (c d : Calls) (p : (n : ℕ) (s : Lent) → EveryCall c n s) (q : (n : ℕ) (s : Lent) → EveryCall d n s) where
  edits : SameEdits c d
  edits = record {
    insert_edge = λ n s u v r w t x a b. insertion_line_only n s u 0 (2 ^ v) _ r w t x ((p n s).insert u v r t a) ((q n s).insert u v w x b);
    delete_edge = λ n s u v r w t x a b. deletion_line_only n s u 0 (2 ^ v) _ r w t x ((p n s).delete u v r t a) ((q n s).delete u v w x b);
  }

  pub every_call_only : SameCalls c d
  every_call_only = record {
    empty = λ n s r w t u a b. empty_line_only n s r w t u ((p n s).empty r t a) ((q n s).empty w u b);
    insert_edge = edits.insert_edge;
    delete_edge = edits.delete_edge;
    insert_edges_at = λ n s v A B r w t u a b.
        insertion_line_only n s v A B _ r w t u ((p n s).insert_at v A B r t a) ((q n s).insert_at v A B w u b);
    delete_edges_at = λ n s v A B r w t u a b.
        deletion_line_only n s v A B _ r w t u ((p n s).delete_at v A B r t a) ((q n s).delete_at v A B w u b);
    path_count = λ n s i j r w a b. path_count_line_only n s i j r w ((p n s).path_count i j r a) ((q n s).path_count i j w b);
    reaches_without = λ n s i j u v r w a b.
        reaches_without_line_only n s i j u v r w ((p n s).reaches_without i j u v r a) ((q n s).reaches_without i j u v w b);
    unrank = λ n s i j k l r w x y a b. unrank_line_only n s i j k l r w x y ((p n s).unrank i j k l r x a) ((q n s).unrank i j k l w y b);
    rank = λ n s l r w a b. rank_line_only n s l r w ((p n s).rank l r a) ((q n s).rank l w b);
    recount = λ n s r w t u a b. recount_line_only n s r w t u ((p n s).recount r t a) ((q n s).recount w u b);
    validate = λ n s r w a b. validate_line_only n s r w ((p n s).validate r a) ((q n s).validate w b);
    read_plan = λ n s l r w t u a b. read_plan_line_only c d edits n s l r w t u ((p n s).read_plan l r t a) ((q n s).read_plan l w u b);
    write_plan = λ n s l r w x y a b. write_plan_line_only n s l r w x y ((p n s).write_plan l r x a) ((q n s).write_plan l w y b);
    maker = λ l m a b. maker_line_only l m ((p 64 (lent l)).maker l a) ((q 64 (lent m)).maker m b);
  }
