-- `scan::reader::Reader::after_run` meets its contract: the class decides. Assumes nothing.
use Rattle.std.proofs.Common.{rules}
use Rattle.scan.specs.After.{under-skipped, under-plain}
use Rattle.scan.specs.Found.{after-sign, after-point, after-under, after-mark, after-other}
use Rattle.scan.proofs.reader.Reader.after_run.Goals as goal

pub returns-in-Sign : goal.returns-in-Sign
returns-in-Sign c = search (rules, after-sign)

pub returns-in-Point : goal.returns-in-Point
returns-in-Point c = search (rules, after-point)

pub returns-in-Underscore : goal.returns-in-Underscore
returns-in-Underscore c = search (rules, after-under, under-skipped)

pub returns-in-Mark : goal.returns-in-Mark
returns-in-Mark c = search (rules, after-mark)

pub returns-in-Underscore-2 : goal.returns-in-Underscore-2
returns-in-Underscore-2 c = search (rules, after-under, under-plain)

pub returns-in-Underscore-2-2 : goal.returns-in-Underscore-2-2
returns-in-Underscore-2-2 c = search (rules, after-other)
