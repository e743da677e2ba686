-- Tags, anchors and directives go on in the text (as Fits has it).
use Rattle.std.specs.Prelude.{◌*◌, ◌+◌, ◌-◌, ◌<◌, ◌≤◌, suc, zero, ℕ, Bool, false, true, List, [], ◌∷◌, ◌≡◌, refl, eqb, ltb, drop}
use Rattle.std.proofs.Common.{arith, ne_eqb}
use Rattle.yaml_text.specs.declared.Mark.{Mark}
use Rattle.yaml_text.specs.Char.{'!', '%', '0', '<', '>', dot}
use Rattle.yaml_text.specs.Class.{is_alpha, is_anchor, is_blank, is_digit, is_non_space, is_tag, is_uri, peek, same}
use Rattle.yaml_text.specs.Mark.{Place, Run, along, here, look, skip_by, run_of}
use Rattle.yaml_text.specs.Test.{by_test, on_pick}
use Rattle.yaml_text.specs.All.{All, all_any, all_bind, all_need, all_test, all_weak, holds, not_read}
use Rattle.yaml_text.specs.PlaceLaws.{FurtherOn, fits_along, fits_refl, fits_trans, left, skip_break_fit, skip_fit, skip_on, there, run_of_fit}
use Rattle.yaml_lexeme.specs.Token.{Lexeme}
use Rattle.yaml_lexeme.specs.Tag.{Texts, handled, percent, primary, scan_tag, tag_texts, uri_run, verbatim}
use Rattle.yaml_lexeme.specs.Anchor.{scan_anchor}
use Rattle.yaml_lexeme.specs.Directive.{Numbered, blanks_at, directive_of, parameters, reserved_directive, scan_directive, tag_directive, tag_handle, tag_name, tag_prefix, version_digits, version_directive, version_number, yaml_name}
use Rattle.yaml_lexeme.specs.Fits.{FitsRun, Reads, before_fit, blanks_and_comment_fit, blanks_fit}

pub uri_run_fit : (f : ℕ → Bool) (start : Mark) (k : ℕ) (m : Mark) (cs : List ℕ) → All Run (FitsRun (here m cs)) (uri_run f start k m cs)
unfolding uri_run
uri_run_fit f start k m [] = holds (fits_refl _)
uri_run_fit f start zero m (c ∷ cs) =
    by_test (f c)
    (λ e. by_test (eqb c '%')
    (λ g. rw (e, g, uri_run) (all_bind _ (all_any (percent start (c ∷ cs)))
    (λ x _. before_fit _ (all_weak (λ r h. fits_along m c cs h) (uri_run_fit f start x.took (along m) cs)))))
    (λ g. rw (e, g, uri_run) (before_fit _ (all_weak (λ r h. fits_along m c cs h) (uri_run_fit f start 0 (along m) cs)))))
    (λ e. rw (e, uri_run) (holds (fits_refl _)))
uri_run_fit f start (suc k) m (c ∷ cs) = all_weak (λ r h. fits_along m c cs h) (uri_run_fit f start k (along m) cs)

abbrev pub FitsTexts : Place → Texts → Type 0
FitsTexts p t = FurtherOn p t.place

-- past the character that stands here
over_char : (c : ℕ) (p : Place) → 0 < c → eqb (look p) c ≡ true → FurtherOn p (skip_by 1 p)
over_char c p h e = skip_fit 1 p (there (λ d. eqb d c) p.rest 0 (ne_eqb 0 c (λ z. absurd (omega arith))) e)

verbatim_fit : (start : Mark) (p : Place) → 2 ≤ left p → All Texts (FitsTexts (skip_by 1 p)) (verbatim start p)
unfolding verbatim
verbatim_fit start p h =
    all_bind _ (uri_run_fit is_uri start 0 _ _)
    (λ r f. all_test _ 20 start _ (λ e. holds (fits_trans (skip_on 1 1 p h) (fits_trans f (over_char '>' r.place (omega arith) e)))))

handled_fit : (start : Mark) (h : List ℕ) (p : Place) → eqb (look p) '!' ≡ true → All Texts (FitsTexts p) (handled start h p)
unfolding handled
handled_fit start h p e =
    all_bind _ (uri_run_fit is_tag start 0 _ _) (λ r f. all_need _ 25 start _ (holds (fits_trans (over_char '!' p (omega arith) e) f)))

primary_fit : (start : Mark) (h : List ℕ) (p : Place) → All Texts (FitsTexts p) (primary start h p)
unfolding primary
primary_fit start h p = all_bind _ (uri_run_fit is_tag start 0 _ _) (λ r f. holds f)

tag_texts_fit : (start : Mark) (p : Place) → All Texts (FitsTexts (skip_by 1 p)) (tag_texts start p)
unfolding tag_texts
tag_texts_fit start p =
    let h = run_of is_alpha (along p.mark) (drop 1 p.rest) in
    let f = run_of_fit is_alpha (along p.mark) (drop 1 p.rest) in
    by_test (eqb (peek p.rest 1) '<')
    (λ e. rw (e, tag_texts) (verbatim_fit start p (there (λ c. eqb c '<') p.rest 1 refl e)))
    (λ e. by_test (eqb (look h.place) '!')
    (λ g. rw (e, g, tag_texts) (all_weak (λ t k. fits_trans f k) (handled_fit start h.text h.place g)))
    (λ g. rw (e, g, tag_texts) (all_weak (λ t k. fits_trans f k) (primary_fit start h.text h.place))))

pub tag_fit : (flow : Bool) (p : Place) → All Lexeme (Reads p.mark (skip_by 1 p)) (scan_tag flow p)
unfolding scan_tag
tag_fit flow p = all_bind _ (tag_texts_fit p.mark p) (λ t f. all_need _ 26 t.place.mark _ (holds (record { onward = f; starts = refl })))

pub anchor_fit : (alias : Bool) (p : Place) → All Lexeme (Reads p.mark (skip_by 1 p)) (scan_anchor alias p)
unfolding scan_anchor
anchor_fit alias p = all_need _ 27 p.mark _ (holds (record { onward = run_of_fit is_anchor (along p.mark) (drop 1 p.rest); starts = refl }))

-- directives

abbrev pub FitsNumbered : Place → Numbered → Type 0
FitsNumbered p v = FurtherOn p v.place

pub version_digits_fit : (start : Mark) (n v : ℕ) (m : Mark) (cs : List ℕ) → All Numbered (FitsNumbered (here m cs)) (version_digits start n v m cs)
unfolding version_digits
version_digits_fit start n v m [] = holds (fits_refl _)
version_digits_fit start n v m (c ∷ cs) =
    by_test (is_digit c)
    (λ e. by_test (ltb n 9)
    (λ f. rw (e, f, version_digits) (all_weak (λ r g. fits_along m c cs g) (version_digits_fit start (suc n) (v * 10 + (c - '0')) (along m) cs)))
    (λ f. rw (e, f, version_digits) not_read))
    (λ e. rw (e, version_digits) (holds (fits_refl _)))

version_number_fit : (start : Mark) (p : Place) → All Numbered (FitsNumbered p) (version_number start p)
unfolding version_number
version_number_fit start p = all_need _ 12 start _ (version_digits_fit start 0 0 p.mark p.rest)

blanks_at_fit : (p : Place) → FurtherOn p (blanks_at p)
blanks_at_fit p = blanks_fit p.mark p.rest

pub version_directive_fit : (start : Mark) (p : Place) → All Lexeme (Reads start p) (version_directive start p)
unfolding version_directive
version_directive_fit start p =
    all_bind _ (version_number_fit start (blanks_at p))
    (λ a f. all_test _ 13 start _ (λ e. all_bind _ (version_number_fit start (skip_by 1 a.place))
    (λ b g. holds (record { onward = fits_trans (fits_trans (blanks_at_fit p) f) (fits_trans (over_char dot a.place (omega arith) e) g); starts = refl }))))

tag_handle_fit : (start : Mark) (p : Place) → All Run (FitsRun p) (tag_handle start p)
unfolding tag_handle
tag_handle_fit start p =
    let w = run_of is_alpha (along p.mark) (drop 1 p.rest) in
    all_test _ 16 start _ (λ e. all_need _ 17 start _
    (let f : FitsRun p w = fits_trans (over_char '!' p (omega arith) e) (run_of_fit is_alpha (along p.mark) (drop 1 p.rest)) in
    holds (on_pick (FitsRun p) (eqb (look w.place) '!') (λ g. fits_trans f (over_char '!' w.place (omega arith) g)) (λ _. f))))

tag_directive_fit : (start : Mark) (p : Place) → All Lexeme (Reads start p) (tag_directive start p)
unfolding tag_directive tag_prefix
tag_directive_fit start p =
    all_bind _ (tag_handle_fit start (blanks_at p))
    (λ a f. all_bind _ (all_need _ 18 start _ (uri_run_fit is_uri start 0 _ _))
    (λ b g. all_need _ 19 start _
    (holds (record { onward = fits_trans (fits_trans (blanks_at_fit p) f) (fits_trans (blanks_at_fit a.place) g); starts = refl }))))

pub parameters_fit : (some blank : Bool) (m : Mark) (cs : List ℕ) → FitsRun (here m cs) (parameters some blank m cs)
unfolding parameters
parameters_fit some blank m [] = fits_refl _
parameters_fit some blank m (c ∷ cs) =
    by_test (is_blank c)
    (λ e. rw (e, parameters) (fits_along m c cs (parameters_fit some true (along m) cs)))
    (λ e. by_test (is_non_space c)
    (λ f. rw (e, f, parameters) (fits_along m c cs (parameters_fit true false (along m) cs)))
    (λ f. rw (e, f, parameters) (fits_refl _)))

directive_of_fit : (start : Mark) (name : List ℕ) (p : Place) → All Lexeme (Reads start p) (directive_of start name p)
unfolding directive_of reserved_directive
directive_of_fit start name p =
    by_test (same name yaml_name)
    (λ e. rw (e, directive_of) (version_directive_fit start p))
    (λ e. by_test (same name tag_name)
    (λ f. rw (e, f, directive_of) (tag_directive_fit start p))
    (λ f. rw (e, f, directive_of) (holds (record { onward = parameters_fit false false p.mark p.rest; starts = refl }))))

pub directive_fit : (p : Place) → All Lexeme (Reads p.mark (skip_by 1 p)) (scan_directive p)
unfolding scan_directive
directive_fit p =
    let f = run_of_fit is_non_space (along p.mark) (drop 1 p.rest) in
    all_need _ 10 (along p.mark) _ (all_need _ 11 (along p.mark) _
    (all_bind _ (directive_of_fit p.mark _ _)
    (λ l r. all_bind _ (blanks_and_comment_fit l.place)
    (λ e g. all_need _ 15 p.mark _
    (holds (record { onward = fits_trans (fits_trans f r.onward) (fits_trans g (skip_break_fit e)); starts = r.starts }))))))
