-- `serve`: by whether the gathered bytes finish the line.
use borrow.Author.Rules.{rules}
use Rattle.serial_port.specs.Call.Serving.{serving}
use Rattle.serial_port.proofs.port.Port.serve.Statement.{statement}
use Rattle.serial_port.proofs.port.Port.serve.Tie as tie

pub serve_spec : {M : Type 1} → statement M
serve_spec =
    tie.close
    (tie.spec
    (λ c κs. search (serving, rules))  -- gather-gathered-requires
    (λ c. search (serving, rules))  -- returns-then-not-gathered
    (λ c κs. search (serving, rules))  -- finish-answered-requires
    (λ c κs. search (serving, rules))  -- fresh-next-requires
    (λ c. search (serving, rules))  -- shape_of-values
    (λ c. search (serving, rules))  -- shape_of-reply
    (λ c. search (serving, rules)))  -- returns
