-- `bits::half` meets its contract: the powers are those of the digit's bits. Assumes nothing.
use Rattle.std.proofs.Common.{sym, ap, ap₂, ◌≡◌, ◌∙◌, ℕ, ◌%◌, ◌-◌, ◌^◌, Bool, cond, nat_cmp, Equal, Greater}
use Rattle.std.specs.Ordering.{ordering_then}
use Rattle.bits.specs.Cut.{cut_of}
use Rattle.bits.proofs.half.Goals.{then-rest, else-rest}
use Rattle.bits.proofs.half.Goals as goal

pub returns : goal.returns
unfolding cut_of
returns c =
    let a = c.args in
    let bits : c.cmp.result ≡ nat_cmp (a.digit % 2 ^ a.c) (2 ^ (a.c - 1)) =
    c.cmp.ensures ∙ ap₂ (λ (m h : ℕ). nat_cmp (a.digit % m) h) c.power.ensures c.power-2.ensures in
    let after : c.if-rest.after ≡ cond a.rest Greater Equal = elim c.if-rest.branch [
      | then-rest w ↦ w.after-is ∙ ap (λ (b : Bool). cond b Greater Equal) (sym w.if-rest.true)
      | else-rest w ↦ w.after-is ∙ ap (λ (b : Bool). cond b Greater Equal) (sym w.if-rest.false)
    ] in c.then.ensures ∙ ap₂ ordering_then bits after
