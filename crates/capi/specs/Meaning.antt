-- The library's answers as the structs of include/tamqoret.h, and C's numbers for a manner and a sign: all that the C
-- interface adds to the meaning of the library. Assumes nothing.
use Rattle.std.specs.Prelude.{Bool, cond, not, ℕ, ℤ, eqb}
use mir.Val.{bool_byte}
use Rattle.format.specs.declared.Manner.{Manner}
use Rattle.format.specs.declared.Manner.TheVariants.{Strict, Saturating, Wrapping, Overflowing}
use Rattle.format.specs.Meaning.{Answered, signed_kind, unsigned_kind, number_in, value_in, flag_in}
use Rattle.fitting.specs.Meaning.{FileAnswer, number_f, values_f, line_f, inner_f}
use Rattle.capi.specs.declared.answer.CSigned.{CSigned}
use Rattle.capi.specs.declared.answer.CUnsigned.{CUnsigned}
use Rattle.capi.specs.declared.c_fitting.CFile.{CFile}

-- tq_signed, tq_unsigned: "number is 0 where it is done, else the refusal. A refusal has flag 0 and value 0."
unfoldable pub signed_of : Answered ℤ → CSigned
signed_of a = record { number = number_in a; flag = bool_byte (flag_in a); value = value_in signed_kind a }

unfoldable pub unsigned_of : Answered ℕ → CUnsigned
unsigned_of a = record { number = number_in a; flag = bool_byte (flag_in a); value = value_in unsigned_kind a }

-- tq_file: the line and its own refusal are "else 0", the values "0 with every refusal"
unfoldable pub file_of : FileAnswer → CFile
file_of a = record { number = number_f a; line = line_f a; inner = inner_f a; values = values_f a }

-- "0 strict, 1 saturating, 2 wrapping, 3 overflowing; any other number is strict"
unfoldable pub manner_of : ℕ → Manner
manner_of n = cond (eqb n 1) Saturating (cond (eqb n 2) Wrapping (cond (eqb n 3) Overflowing Strict))

-- "negative unless neg is 0"
abbrev pub some_of : ℕ → Bool
some_of n = not (eqb n 0)
