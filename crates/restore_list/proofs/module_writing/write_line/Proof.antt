-- `write_line`: what is written into the part that is left is written into the whole.
use borrow.Author.Rules.{rules}
use Rattle.restore_list.specs.Writing.Line.{lending}
use Rattle.restore_list.proofs.module_writing.write_line.Statement.{statement}
use Rattle.restore_list.proofs.module_writing.write_line.Tie as tie

pub write_line_spec : {M : Type 1} → statement M
write_line_spec =
    tie.close
    (tie.spec
    (λ c. search (lending, rules))  -- slice_bounds-put_say_line-count
    (λ c. search (lending, rules))  -- slice_bounds-put_say_line-start
    (λ c. search (lending, rules))  -- slice_bounds-put_say_line-end
    (λ c κs. search (lending, rules))  -- put_say_line-requires
    (λ c. search (lending, rules))  -- overflow_add-result
    (λ c. search (lending, rules))  -- shape_of-list
    (λ c. search (lending, rules)))  -- returns
