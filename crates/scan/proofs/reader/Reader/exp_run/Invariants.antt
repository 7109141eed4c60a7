-- `scan::reader::Reader::exp_run` meets its contract. The invariant: what is left of the text, from this exponent, comes to what it comes to from
-- the start. Assumes nothing.
use Prim.Native.Nat.{◌≤◌}
use mathlib.Core.Path.{◌≡◌}
use lib.ListN.{drop}
use Rattle.grammar.specs.Automaton.{at, exponent, sign}
use Rattle.grammar.specs.Reading.{reading, exp_at}
use Rattle.grammar.specs.Run.{sep_of}
use Rattle.scan.specs.Found.{written_of}
use Rattle.scan.proofs.reader.Reader.exp_run.Given as goal

abbrev pub invariant-loop-b : goal.invariant-loop-b
invariant-loop-b l =
    (l.e ≤ 2147483648)
    × (reading (sep_of l.self.skip) l.self.radix (drop l.b-index l.b-items) (exp_at l.seen (written_of l.text l.p) l.e)
    ≡ reading (sep_of l.self.skip) l.self.radix (drop l.from l.text) (at exponent sign (written_of l.text l.p)))
