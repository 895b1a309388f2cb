-- `query::checks::check_path` meets its contract: where no byte is n or more, each is a vertex. Assumes nothing.
use Rattle.answer.proofs.TableLaws.{reflects_false}
use Rattle.query.proofs.PathLaws.{vertices_of}
use Rattle.query.proofs.checks.check_path.Goals as goal

pub is_broken-requires : goal.is_broken-requires
is_broken-requires c = vertices_of _ c.args.path.now ((reflects_false c.has_no_vertex.ensures).0 c.if-has_no_vertex.false)
