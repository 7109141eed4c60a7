-- `scan::literal::literal` meets its contract: sign, prefix, digits. Assumes nothing.
use Rattle.std.proofs.Common.{◌∙◌, arith}
use Rattle.scan.specs.Literal.{start-is, start_fits, literal-legal, literal-radix, literal-fits, literal-found}
use Rattle.scan.proofs.literal.literal.Goals as goal

pub slice_bounds-body-count : goal.slice_bounds-body-count
slice_bounds-body-count c = start_fits c.args.signed c.args.text.now c.minus-neg.ensures (c.from-from.ensures ∙ start-is c.minus-neg.result)

pub slice_bounds-body-start : goal.slice_bounds-body-start
slice_bounds-body-start c = omega (arith, start_fits c.args.signed c.args.text.now c.minus-neg.ensures (c.from-from.ensures ∙ start-is c.minus-neg.result))

pub invariant_of-reader : goal.invariant_of-reader
invariant_of-reader c = record { legal = literal-legal _ c.prefix_radix-radix.ensures }

pub whole-requires : goal.whole-requires
whole-requires c = literal-fits c.args.signed c.args.text.now c.minus-neg.ensures (c.from-from.ensures ∙ start-is c.minus-neg.result) c.digits_at.ensures.0

pub returns : goal.returns
returns c =
    let a = c.args in
    let k = c.from-from.ensures ∙ start-is c.minus-neg.result in
    let r = c.prefix_radix-radix.ensures in
    record {
      radix = literal-radix a.signed a.text.now c.minus-neg.ensures k r;
      found = literal-found a.signed a.text.now c.minus-neg.ensures k c.digits_at.result r c.digits_at.ensures.1 c.whole.ensures;
    }
