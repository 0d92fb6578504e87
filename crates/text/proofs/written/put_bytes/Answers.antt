-- `put_bytes`: the rules of its loop.
use borrow.Author.Rules.{rules}
use Rattle.text.specs.Written.Laws.{copying}
use Rattle.text.proofs.written.put_bytes.Goals as goal

pub loop-i-preserved : goal.loop-i-preserved
loop-i-preserved c = search (copying, rules)
