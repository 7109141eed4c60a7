-- The small files with the list as records: each is that of `fitting` by the tie, and not computed again. Assumes nothing.
use Rattle.std.specs.Prelude.{refl, length}
use Rattle.std.proofs.Common.{sym}
use Rattle.fitting.specs.Room.{checked-long, checked-many}
use Rattle.fitting.specs.Cases.{taps-case, line-case, damaged-cases, refusal-cases}
use Rattle.fitting_list.specs.Filled.{refused-all}
use Rattle.fitting_list.specs.Cases.{ListCases}
use Rattle.fitting_list.proofs.Theorems.{by-tie}

pub list-cases : ListCases
list-cases = record {
  taps-list-case = by-tie _ _ _ _ _ _ taps-case;
  line-list-case = by-tie _ _ _ _ _ _ line-case;
  damaged-list-cases =
      (by-tie _ _ _ _ _ _ damaged-cases.0, (by-tie _ _ _ _ _ _ damaged-cases.1.0, by-tie _ _ _ _ _ _ damaged-cases.1.1));
  refusal-list-cases = (
    by-tie _ _ _ _ _ _ refusal-cases.0,
    (
      by-tie _ _ _ _ _ _ refusal-cases.1.0,
      (by-tie _ _ _ _ _ _ refusal-cases.1.1.0, by-tie _ _ _ _ _ _ refusal-cases.1.1.1),
    ),
  );
  order-list-cases = λ file xs taps.
      let n = length xs in (
        λ h. sym (refused-all file xs taps (checked-long file n n n (length taps) h)),
        λ h k. sym (refused-all file xs taps (checked-many file n n n (length taps) h refl k)),
      );
}
