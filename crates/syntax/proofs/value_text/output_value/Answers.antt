-- What the switch's text says of the output is put into the word.
use borrow.Author.Rules.{rules}
use Prim.Native.Nat.{◌<◌}
use Rattle.syntax.specs.Value.Crosspoint.{output_rules, size_small, put_fits, word_small, output_put}
use Rattle.syntax.proofs.value_text.output_value.Goals as goal

pub overflow_cast-had : goal.overflow_cast-had
overflow_cast-had c = search (output_rules, rules)

pub switch_value-requires : goal.switch_value-requires
switch_value-requires c = search (output_rules, rules)

pub returns-in_err-b : goal.returns-in_err-b
returns-in_err-b c = search (output_rules, rules)

pub with_bit-requires-clause-b_bound : goal.with_bit-requires-clause-b_bound
with_bit-requires-clause-b_bound c =
    size_small c.args.output c.magnitude-word.result c.bit_of-had.result c.bit_of-had.ensures c.args.text.now c.in_ok-b.b c.in_ok-b.ensures _ c.magnitude.ensures

pub overflow_cast-result : goal.overflow_cast-result
overflow_cast-result c =
    let bit : c.magnitude.result < 2 =
    size_small c.args.output c.magnitude-word.result c.bit_of-had.result c.bit_of-had.ensures c.args.text.now c.in_ok-b.b c.in_ok-b.ensures _ c.magnitude.ensures in
    put_fits c.args.output c.magnitude.result c.magnitude-word.result _ c.with_bit.ensures bit c.requires.le_output
    (word_small c.args.present c.ranges.present _ c.magnitude-word.ensures c.requires.present_bound)

pub returns : goal.returns
returns c =
    output_put c.args.present c.ranges.present _ c.magnitude-word.ensures c.args.output _ c.bit_of-had.ensures c.args.text.now c.in_ok-b.b c.in_ok-b.ensures _
    c.magnitude.ensures _ c.with_bit.ensures c.requires.present_bound c.requires.le_output
