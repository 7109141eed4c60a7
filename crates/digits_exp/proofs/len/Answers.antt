-- `digits_exp::len` meets its promise: the four counts make up the length.
-- Assumes nothing.
use Rattle.digits_exp.proofs.Cuts.{len_is, len-fits}
use Rattle.digits_exp.proofs.len.Goals as goal

pub overflow_add-result : goal.overflow_add-result
overflow_add-result c =
    record {
      fits = (len-fits c.args.text.now c.args.d
          c.requires.0 c.requires.1).0;
    }

pub overflow_add-result-2 : goal.overflow_add-result-2
overflow_add-result-2 c =
    record {
      fits = (len-fits c.args.text.now c.args.d
          c.requires.0 c.requires.1).1;
    }

pub overflow_add-result-3 : goal.overflow_add-result-3
overflow_add-result-3 c =
    record {
      fits = (len-fits c.args.text.now c.args.d
          c.requires.0 c.requires.1).2;
    }

pub returns : goal.returns
returns c =
    len_is c.args.text.now c.args.d
    c.requires.0
