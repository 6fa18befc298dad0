-- The lines of a text that is made of pieces and data.
use Rattle.ed_sources.proofs.Kit.{append_assoc, Text, append-nil, eqb-true, [], ap, if◌then◌else◌, List}
use Rattle.ed_sources.proofs.Kit.{refl, sym, ◌++◌, ◌==◌, ◌∙◌, ◌∷◌, ◌≡◌, filled_text, text_of_lines}
use Rattle.std.proofs.Common.{rules}

-- texts with line ends between them
abbrev ended : List Text → Text
ended [] = []
ended (t ∷ ts) = 10 ∷ (t ++ ended ts)

abbrev between : List Text → Text
between [] = []
between (t ∷ ts) = t ++ ended ts

-- a line end, or another byte or a text, before such texts
abbrev after_end : List Text → List Text
after_end [] = [] ∷ [] ∷ []
after_end (t ∷ ts) = [] ∷ t ∷ ts

abbrev put : Text → List Text → List Text
put t [] = t ∷ []
put t (u ∷ us) = (t ++ u) ∷ us

-- a text at its line ends
abbrev split : Text → List Text
split [] = []
split (b ∷ t) = if b == 10 then after_end (split t) else put (b ∷ []) (split t)

-- texts before others: the last of the first and the first of the others are one
abbrev before : List Text → List Text → List Text
before [] more = more
before (t ∷ []) more = put t more
before (t ∷ u ∷ us) more = t ∷ before (u ∷ us) more

-- the filled text at its line ends
abbrev segments : List Text → List Text → List Text
segments [] ds = []
segments (piece ∷ pieces) [] = before (split piece) (segments pieces [])
segments (piece ∷ pieces) (d ∷ ds) = before (split piece) (put d (segments pieces ds))

put_is : (t : Text) (ts : List Text) → between (put t ts) ≡ t ++ between ts
put_is t [] = refl
put_is t (u ∷ us) = append_assoc t u (ended us)

split_is : (t : Text) → between (split t) ≡ t
split_is [] = refl
split_is (b ∷ t) = search (rules, eqb-true, put_is, split_is t)

ended_put : (u : Text) (us : List Text) → ended (put u us) ≡ 10 ∷ between (put u us)
ended_put u [] = refl
ended_put u (v ∷ us) = refl

ended_is : (u : Text) (ts us : List Text) → ended (before (u ∷ ts) us) ≡ 10 ∷ between (before (u ∷ ts) us)
ended_is u [] us = ended_put u us
ended_is u (v ∷ ts) us = refl

before_is : (ts us : List Text) → between (before ts us) ≡ between ts ++ between us
before_is [] us = refl
before_is (t ∷ []) us = put_is t us ∙ ap (λ (x : Text). x ++ between us) (sym (append-nil t))
before_is (t ∷ u ∷ ts) us = search (rules, ended_is, append_assoc, before_is (u ∷ ts) us)

segments_are : (pieces ds : List Text) → between (segments pieces ds) ≡ filled_text pieces ds
segments_are [] ds = refl
segments_are (piece ∷ pieces) [] = search (rules, before_is, split_is, segments_are pieces)
segments_are (piece ∷ pieces) (d ∷ ds) = search (rules, before_is, split_is, put_is, segments_are pieces ds)

-- all but the last of them: the lines, if the text ends with a line end, so that the last one is empty
abbrev firsts : List Text → List Text
firsts [] = []
firsts (t ∷ []) = []
firsts (t ∷ u ∷ ts) = t ∷ firsts (u ∷ ts)

abbrev last : List Text → Text
last [] = []
last (t ∷ []) = t
last (t ∷ u ∷ ts) = last (u ∷ ts)

abbrev pub filled_lines : List Text → List Text → List Text
filled_lines pieces ds = firsts (segments pieces ds)

abbrev pub unended : List Text → List Text → Text
unended pieces ds = last (segments pieces ds)

lines_are : (ts : List Text) → text_of_lines (firsts ts) ++ last ts ≡ between ts
lines_are [] = refl
lines_are (t ∷ []) = sym (append-nil t)
lines_are (t ∷ u ∷ ts) = search (rules, append_assoc, lines_are (u ∷ ts))

pub filled_is : (pieces ds : List Text) → unended pieces ds ≡ []
    → text_of_lines (filled_lines pieces ds) ≡ filled_text pieces ds
filled_is pieces ds e =
    sym (append-nil (text_of_lines (filled_lines pieces ds)))
    ∙ ap (λ (x : Text). text_of_lines (filled_lines pieces ds) ++ x) (sym e)
    ∙ lines_are (segments pieces ds) ∙ segments_are pieces ds
