-- The values of a file are exactly its value lines, in order, each with its number; and what a comment, an empty line or another value changes.
-- Assumes nothing.
use Rattle.std.specs.Prelude.{◌≡◌, ◌⊎◌, Bool, true, false, cond, ℕ, suc, ◌+◌, ◌-◌}
use Rattle.std.proofs.Math.Path.{refl, ap}
use Rattle.std.proofs.Common.{sym, ◌∙◌, subst, inl, inr, arith}
use mathlib.Core.List.{List, [], ◌∷◌, ◌++◌, map, map-append, Memᴰ}
use mathlib.Core.List.Memᴰ
use Rattle.std.proofs.Math.ListN.{length}
use Rattle.value_lines.specs.Meaning.{line_feed, lines_of, is_value, ValueLine, value_line, values_from, values_of, raw_at, number_at}
use Rattle.value_lines.specs.Lines.{value-more, value-skip}
use Rattle.value_lines.specs.Theorems.{NoFeed, NoFeeds, joined_lines, line-cut, lines-before, only, line_text, texts-from, raws-of, Numbered, values-append, later, values-later}

pub values-are : (file : List ℕ) → map line_text (values_of file) ≡ only (lines_of file)
unfolding values_of
values-are file = texts-from 1 (lines_of file)

numbered-from : (n : ℕ) (lines : List (List ℕ)) (v : ValueLine) → Memᴰ v (values_from n lines) → Numbered n lines v
unfolding values_from
numbered-from n [] v m = absurd (Memᴰ.not-nil m)
numbered-from n (line ∷ lines) v m = go (is_value line) (λ h. numbered-from (n + 1) lines v h) m
  where
    later : Numbered (n + 1) lines v → Numbered n (line ∷ lines) v
    later h =
        let step : v.number - n ≡ suc (v.number - (n + 1)) = omega (arith, h.at_least) in
        record { at_least = omega (arith, h.at_least); is-line = rw step h.is-line }

    here : v ≡ value_line n line → Numbered n (line ∷ lines) v
    here e =
        let zero : n - n ≡ 0 = omega arith in
        subst (λ (u : ValueLine). Numbered n (line ∷ lines) u) (sym e) (record { at_least = omega arith; is-line = rw zero })

    either : (v ≡ value_line n line) ⊎ Numbered (n + 1) lines v → Numbered n (line ∷ lines) v
    either (inl e) = here e
    either (inr h) = later h

    split : (v ≡ value_line n line) ⊎ Memᴰ v (values_from (n + 1) lines) → (Memᴰ v (values_from (n + 1) lines) → Numbered (n + 1) lines v)
        → Numbered n (line ∷ lines) v
    split (inl e) f = either (inl e)
    split (inr h) f = either (inr (f h))

    go : (b : Bool) → (Memᴰ v (values_from (n + 1) lines) → Numbered (n + 1) lines v)
        → Memᴰ v (cond b (value_line n line ∷ values_from (n + 1) lines) (values_from (n + 1) lines)) → Numbered n (line ∷ lines) v
    go true f m = split (Memᴰ.cases_cons m) f
    go false f m = later (f m)

pub values-numbered : (file : List ℕ) (v : ValueLine) → Memᴰ v (values_of file) → Numbered 1 (lines_of file) v
unfolding values_of
values-numbered file v m = numbered-from 1 (lines_of file) v m

-- the values of the lines before a place, and of the text after it
module _ (lines : List (List ℕ)) (before : NoFeeds lines) (file : List ℕ) where
  abbrev first : List ValueLine
  first = values_from 1 lines

  abbrev rest : List ValueLine
  rest = values_from (1 + length lines) (lines_of file)

  pub cut : values_of (joined_lines lines ++ file) ≡ first ++ rest
  unfolding values_of
  cut = ap (values_from 1) (lines-before file before) ∙ values-append 1 lines (lines_of file)

  -- Adding a comment or an empty line between two lines: the values before it stay, those after it have the next line number, and no raw or answer changes.
  module _ (skipped : List ℕ) (whole : NoFeed skipped) (skip : is_value skipped ≡ false) where
    pub skipped-line : values_of (joined_lines lines ++ (skipped ++ line_feed ∷ file)) ≡ first ++ map later rest
    unfolding values_of
    skipped-line =
        let there = lines-before (skipped ++ line_feed ∷ file) before ∙ ap (λ (l : List (List ℕ)). lines ++ l) (line-cut skipped file whole) in
        ap (values_from 1) there ∙ values-append 1 lines (skipped ∷ lines_of file)
        ∙ ap (λ (l : List ValueLine). first ++ l) (value-skip (1 + length lines) skipped (lines_of file) skip ∙ values-later (1 + length lines) (lines_of file))

    later-text : (vs : List ValueLine) → map line_text (map later vs) ≡ map line_text vs
    unfolding later
    later-text [] = refl
    later-text (v ∷ vs) = rw (later-text vs)

    pub skipped-raws : (map raw_at (values_of (joined_lines lines ++ (skipped ++ line_feed ∷ file))) ≡ map raw_at (values_of (joined_lines lines ++ file)))
        × (map number_at (values_of (joined_lines lines ++ (skipped ++ line_feed ∷ file))) ≡ map number_at (values_of (joined_lines lines ++ file)))
    skipped-raws =
        raws-of (values_of (joined_lines lines ++ (skipped ++ line_feed ∷ file))) (values_of (joined_lines lines ++ file))
        (ap (map line_text) skipped-line ∙ map-append line_text first (map later rest)
        ∙ rw (later-text rest) (sym (ap (map line_text) cut ∙ map-append line_text first rest)))

  -- One value line in place of another: no other value changes.
  pub changed-line : (line : List ℕ) → NoFeed line → is_value line ≡ true
      → values_of (joined_lines lines ++ (line ++ line_feed ∷ file)) ≡ first
      ++ value_line (1 + length lines) line ∷ values_from (1 + length lines + 1) (lines_of file)
  unfolding values_of
  changed-line line whole value =
      let there = lines-before (line ++ line_feed ∷ file) before ∙ ap (λ (l : List (List ℕ)). lines ++ l) (line-cut line file whole) in
      ap (values_from 1) there ∙ values-append 1 lines (line ∷ lines_of file)
      ∙ ap (λ (l : List ValueLine). first ++ l) (value-more (1 + length lines) line (lines_of file) value)
