-- `write_whole`: what is written into the part that is left is written into the whole.
use borrow.Author.Rules.{rules}
use Rattle.restore_list.specs.Writing.Line.{whole-lending}
use Rattle.restore_list.proofs.listed_writing.write_whole.Statement.{statement}
use Rattle.restore_list.proofs.listed_writing.write_whole.Tie as tie

pub write_whole_spec : {M : Type 1} → statement M
write_whole_spec =
    tie.close
    (tie.spec
    (λ c. search (whole-lending, rules))  -- slice_bounds-put_whole_line-count
    (λ c. search (whole-lending, rules))  -- slice_bounds-put_whole_line-start
    (λ c. search (whole-lending, rules))  -- slice_bounds-put_whole_line-end
    (λ c κs. search (whole-lending, rules))  -- put_whole_line-requires
    (λ c. search (whole-lending, rules))  -- overflow_add-result
    (λ c. search (whole-lending, rules))  -- shape_of-list
    (λ c. search (whole-lending, rules)))  -- returns
