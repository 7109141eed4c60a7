-- The digits of what inner functions take: of a view of a text, of two, and of a whole. No promise of a public function
-- cites these. Assumes nothing.
use Rattle.std.specs.Prelude.{List, ◌++◌, ℕ}
use Rattle.digits_exp.specs.declared.view.View.{View}
use Rattle.digits_exp.specs.declared.moving.Pair.{Pair}
use Rattle.digits_exp.specs.declared.splitting.Whole.{Whole}
use Rattle.digits_exp.specs.Meaning.{span_of, digits_exp_of}

abbrev pub view_digits : View → List ℕ
view_digits v = span_of v.text.now v.at

abbrev pub pair_digits : Pair → List ℕ
pair_digits p = span_of p.text.now p.a ++ span_of p.text.now p.b

abbrev pub exp_digits : Whole → List ℕ
exp_digits w = digits_exp_of w.text.now w.digits
