-- Tags, anchors and directives are paid (as Sizes has it).
use Rattle.std.specs.Prelude.{◌+◌, ◌≤◌, suc, zero, ℕ, Bool, ◌&&◌, false, true, List, [], ◌++◌, ◌∷◌, ◌≡◌, refl, eqb, drop, length}
use Rattle.std.proofs.Common.{arith, length-append}
use Rattle.yaml_text.specs.declared.Mark.{Mark}
use Rattle.yaml_text.specs.Pick.{pick}
use Rattle.yaml_text.specs.Char.{'!', '%', '<', space}
use Rattle.yaml_text.specs.Utf8.{char_bytes, encode}
use Rattle.yaml_text.specs.Class.{is_alpha, is_anchor, is_blank, is_non_space, is_tag, is_uri, none_left, peek, same}
use Rattle.yaml_text.specs.Mark.{Place, Run, along, here, look, nothing_at, skip_by, run_of}
use Rattle.yaml_text.specs.Test.{by_pick, by_test, on_pick}
use Rattle.yaml_text.specs.All.{All, all_any, all_bind, all_both, all_need, all_test, all_weak, holds}
use Rattle.yaml_text.specs.PlaceLaws.{left, skip_break_fit, there}
use Rattle.yaml_lexeme.specs.Token.{Kind, Lexeme, kind_bytes, size, token_bytes}
use Rattle.yaml_lexeme.specs.Role.{neither, role}
use Rattle.yaml_lexeme.specs.Tag.{Texts, handled, primary, scan_tag, tag_texts, uri_run, verbatim}
use Rattle.yaml_lexeme.specs.Anchor.{scan_anchor}
use Rattle.yaml_lexeme.specs.Directive.{blanks_at, directive_of, parameters, reserved_directive, scan_directive, tag_directive, tag_handle, tag_name, tag_prefix, version_directive, version_number, yaml_name}
use Rattle.yaml_lexeme.specs.Fits.{blanks_and_comment_fit, blanks_fit}
use Rattle.yaml_lexeme.specs.EscapeFits.{percent_fit}
use Rattle.yaml_lexeme.specs.EscapeSizes.{percent_pays}
use Rattle.yaml_lexeme.specs.TagFits.{version_directive_fit}
use Rattle.yaml_lexeme.specs.Sizes.{Lexed, Pays, PaysRun, all_before, drop_less, size_append, size_cons, size_drop, size_fits, size_first, size_nil, size_one, width, width_some, run_of_pays}

uri_run_pays : (f : ℕ → Bool) (start : Mark) (k : ℕ) (m : Mark) (cs : List ℕ) → All Run (PaysRun 0 (drop k cs)) (uri_run f start k m cs)
unfolding uri_run
uri_run_pays f start zero m [] = let h : PaysRun 0 [] (nothing_at (here m [])) = omega (arith, size_nil) in holds h
uri_run_pays f start (suc k) m [] = let h : PaysRun 0 [] (nothing_at (here m [])) = omega (arith, size_nil) in holds h
uri_run_pays f start zero m (c ∷ cs) =
    by_test (f c)
    (λ e. by_test (eqb c '%')
    (λ g. rw (e, g, uri_run) (all_bind _ (all_both (percent_fit start c cs) (percent_pays start (c ∷ cs)))
    (λ x h. all_before (x.char ∷ []) (λ r i. omega (arith, size_cons x.char r.text, size_cons c cs, (width_some c).0, size_drop x.took cs h.0.1, h.1))
    (uri_run_pays f start x.took (along m) cs))))
    (λ g. rw (e, g, uri_run) (all_before (c ∷ []) (λ r i. omega (arith, size_cons c r.text, size_cons c cs)) (uri_run_pays f start 0 (along m) cs))))
    (λ e. let h : PaysRun 0 (c ∷ cs) (nothing_at (here m (c ∷ cs))) = omega (arith, size_nil) in rw (e, uri_run) (holds h))
uri_run_pays f start (suc k) m (c ∷ cs) = uri_run_pays f start k (along m) cs

-- tags

abbrev PaysTexts : ℕ → List ℕ → Texts → Type 0
PaysTexts k cs t = Pays k cs (size t.one + size t.other) t.place.rest

verbatim_pays : (start : Mark) (p : Place) → All Texts (PaysTexts 0 p.rest) (verbatim start p)
unfolding verbatim
verbatim_pays start p =
    all_bind _ (uri_run_pays is_uri start 0 _ _)
    (λ r h. all_need _ 20 start _ (let k : Pays 0 p.rest (size [] + size r.text) (drop 1 r.place.rest) =
    omega (arith, size_nil, drop_less 2 p.rest, drop_less 1 r.place.rest) in holds k))

-- '!' and the handle h were taken

handled_pays : (start : Mark) (h : List ℕ) (p : Place) → 1 ≤ left p → All Texts (PaysTexts (1 + size h) p.rest) (handled start h p)
unfolding handled char_bytes
handled_pays start h p some =
    all_bind _ (uri_run_pays is_tag start 0 _ _)
    (λ r i. all_need _ 25 start _ (let k : Pays (1 + size h) p.rest (size ('!' ∷ h ++ ('!' ∷ [])) + size r.text) r.place.rest =
    omega (arith, size_cons '!' (h ++ ('!' ∷ [])), size_append h ('!' ∷ []), size_one '!', size_first p.rest some, (width_some (look p)).0) in holds k))

primary_pays : (start : Mark) (h : List ℕ) (p : Place) → All Texts (PaysTexts (1 + size h) p.rest) (primary start h p)
unfolding primary char_bytes
primary_pays start h p =
    all_bind _ (uri_run_pays is_tag start 0 _ _)
    (λ r i. let s = h ++ r.text in
    let k : Pays (1 + size h) p.rest (size (pick (none_left s) [] ('!' ∷ [])) + size (pick (none_left s) ('!' ∷ []) s)) r.place.rest =
    omega (arith, size_append h r.text, texts_one (none_left s) s) in holds k)
  where
    texts_one : (b : Bool) (s : List ℕ) → size (pick b [] ('!' ∷ [])) + size (pick b ('!' ∷ []) s) ≤ 1 + size s
    texts_one true s = omega (arith, size_nil, size_one '!')
    texts_one false s = omega (arith, size_one '!')

tag_texts_pays : (start : Mark) (p : Place) → 1 ≤ left p → All Texts (PaysTexts 0 p.rest) (tag_texts start p)
unfolding tag_texts
tag_texts_pays start p some =
    let h = run_of is_alpha (along p.mark) (drop 1 p.rest) in
    let i = run_of_pays is_alpha (along p.mark) (drop 1 p.rest) in
    let f = size_first p.rest some in
    let w = (width_some (look p)).0 in
    by_test (eqb (peek p.rest 1) '<')
    (λ e. rw (e, tag_texts) (verbatim_pays start p))
    (λ e. by_test (eqb (look h.place) '!')
    (λ g. rw (e, g, tag_texts) (all_weak (λ t k. omega arith) (handled_pays start h.text h.place (there (λ d. eqb d '!') h.place.rest 0 refl g))))
    (λ g. rw (e, g, tag_texts) (all_weak (λ t k. omega arith) (primary_pays start h.text h.place))))

pub tag_lexed : (flow : Bool) (p : Place) → 1 ≤ left p → All Lexeme (Lexed 0 p.rest) (scan_tag flow p)
unfolding scan_tag kind_bytes role
tag_lexed flow p some =
    all_bind _ (tag_texts_pays p.mark p some)
    (λ t h. all_need _ 26 t.place.mark _ (holds (record { neutral = refl; paid = omega (arith, length-append (encode t.one) (encode t.other)) })))

pub anchor_lexed : (alias : Bool) (p : Place) → All Lexeme (Lexed 0 p.rest) (scan_anchor alias p)
unfolding scan_anchor kind_bytes role
anchor_lexed alias p =
    let r = run_of is_anchor (along p.mark) (drop 1 p.rest) in
    let h : Pays 0 p.rest (size r.text) r.place.rest = omega (arith, run_of_pays is_anchor (along p.mark) (drop 1 p.rest), drop_less 1 p.rest) in
    all_need _ 27 p.mark _ (holds (record {
      neutral = by_pick (λ (k : Kind). role k ≡ neither) alias _ _ refl refl;
      paid = by_pick (λ (k : Kind). Pays 0 p.rest (length (kind_bytes k)) r.place.rest) alias _ _ h h;
    }))

-- directives

version_silent : (start : Mark) (p : Place) → All Lexeme (λ l. (role l.token.kind ≡ neither) × (length (token_bytes l.token) ≡ 0)) (version_directive start p)
unfolding version_directive kind_bytes role
version_silent start p =
    all_bind _ (all_any (version_number start (blanks_at p)))
    (λ a _. all_need _ 13 start _ (all_bind _ (all_any (version_number start (skip_by 1 a.place))) (λ b _. holds (refl, refl))))

handle_pays : (start : Mark) (p : Place) → All Run (PaysRun 0 p.rest) (tag_handle start p)
unfolding tag_handle char_bytes
handle_pays start p =
    let w = run_of is_alpha (along p.mark) (drop 1 p.rest) in
    let i = run_of_pays is_alpha (along p.mark) (drop 1 p.rest) in
    all_test _ 16 start _ (λ e. all_need _ 17 start _
    (let f = size_first p.rest (there (λ d. eqb d '!') p.rest 0 refl e) in
    let n = (width_some (look p)).0 in
    holds (on_pick (PaysRun 0 p.rest) (eqb (look w.place) '!')
    (λ g. omega (arith, size_cons '!' (w.text ++ ('!' ∷ [])), size_append w.text ('!' ∷ []), size_one '!', (width_some (look w.place)).0, size_first w.place.rest (there (λ d. eqb d '!') w.place.rest 0 refl g)))
    (λ _. omega (arith, size_one '!')))))

tag_directive_lexed : (start : Mark) (name : List ℕ) (p : Place) → All Lexeme (Lexed (size name) p.rest) (tag_directive start p)
unfolding tag_directive tag_prefix kind_bytes role
tag_directive_lexed start name p =
    all_bind _ (handle_pays start (blanks_at p))
    (λ a h. all_bind _ (all_need _ 18 start _ (uri_run_pays is_uri start 0 _ _))
    (λ b i. all_need _ 19 start _ (holds (record {
      neutral = refl;
      paid = omega (arith, length-append (encode a.text) (encode b.text), size_fits (blanks_fit p.mark p.rest), size_fits (blanks_fit a.place.mark a.place.rest));
    }))))

-- a space between parameters was paid by a blank
parameters_pay : (some blank : Bool) (m : Mark) (cs : List ℕ) → PaysRun (pick blank 1 0) cs (parameters some blank m cs)
unfolding parameters char_bytes
parameters_pay some blank m [] = omega (arith, size_nil)
parameters_pay some blank m (c ∷ cs) =
    by_test (is_blank c)
    (λ e. rw (e, parameters) (omega (arith, size_cons c cs, (width_some c).0, parameters_pay some true (along m) cs)))
    (λ e. by_test (is_non_space c)
    (λ f. rw (e, f, parameters) (let r = parameters true false (along m) cs in
    omega (arith, size_cons c cs, parameters_pay true false (along m) cs, size_append (pick (some && blank) (space ∷ c ∷ []) (c ∷ [])) r.text, joined some blank)))
    (λ f. rw (e, f, parameters) (omega (arith, size_nil))))
  where
    joined : (some blank : Bool) → size (pick (some && blank) (space ∷ c ∷ []) (c ∷ [])) ≤ pick blank 1 0 + width c
    joined true true = omega (arith, size_cons space (c ∷ []), size_one c)
    joined true false = omega (arith, size_one c)
    joined false true = omega (arith, size_one c)
    joined false false = omega (arith, size_one c)

directive_of_lexed : (start : Mark) (name : List ℕ) (p : Place) → All Lexeme (Lexed (size name) p.rest) (directive_of start name p)
unfolding directive_of reserved_directive kind_bytes role
directive_of_lexed start name p =
    by_test (same name yaml_name)
    (λ e. rw (e, directive_of) (all_weak (λ l h. record { neutral = h.1.0; paid = omega (arith, size_fits h.0.onward, h.1.1) }) (all_both (version_directive_fit start p) (version_silent start p))))
    (λ e. by_test (same name tag_name)
    (λ f. rw (e, f, directive_of) (tag_directive_lexed start name p))
    (λ f. rw (e, f, directive_of) (let r = parameters false false p.mark p.rest in
    let h : Pays (size name) p.rest (length (encode name ++ encode r.text)) r.place.rest =
    omega (arith, length-append (encode name) (encode r.text), parameters_pay false false p.mark p.rest) in
    holds (record { neutral = refl; paid = h }))))

pub directive_lexed : (p : Place) → All Lexeme (Lexed 0 p.rest) (scan_directive p)
unfolding scan_directive
directive_lexed p =
    let h = run_of_pays is_non_space (along p.mark) (drop 1 p.rest) in
    all_need _ 10 (along p.mark) _ (all_need _ 11 (along p.mark) _
    (all_bind _ (directive_of_lexed p.mark _ _)
    (λ l i. all_bind _ (blanks_and_comment_fit l.place)
    (λ e g. all_need _ 15 p.mark _
    (holds (record { neutral = i.neutral; paid = omega (arith, i.paid, drop_less 1 p.rest, size_fits g, size_fits (skip_break_fit e)) }))))))
