-- `search tests` closes a return whose definition goes by the code's own tests: each test of the definition is rewritten
-- by what the branch on the way has shown. Assumes nothing.
use Rattle.std.proofs.Common.{arith, lt-ltb, le-ltb, le-leb, eq-eqb, ne_eqb}
use Rattle.std.proofs.lemmas.Bool.{lt-leb}

pub ruleset tests = (lt-ltb, le-ltb, le-leb, lt-leb, eq-eqb, ne_eqb, arith)
