-- `serve_one`: what the port call promises.
use borrow.Author.Rules.{rules}
use Rattle.connections.specs.Serving.Rules.{serving}
use Rattle.connections.proofs.serving.serve_one.Statement.{statement}
use Rattle.connections.proofs.serving.serve_one.Tie as tie

pub serve_one_spec : {M : Type 1} → statement M
serve_one_spec =
    tie.close
    (tie.spec
    (λ c κs. search (serving, rules))  -- take_tested-called-requires
    (λ c. search (serving, rules))  -- shape_of-values
    (λ c. search (serving, rules))  -- shape_of-reply
    (λ c. search (serving, rules)))  -- returns
