-- Each reader goes on in the text that it was given: what it leaves is the text behind what it took, at the index behind it, on no earlier line.
-- It takes its first character, and its token starts there. Here: gaps, plain and quoted scalars; BlockFits and TagFits have the others.
use Rattle.std.specs.Prelude.{suc, zero, ℕ, Bool, ◌&&◌, ◌||◌, false, true, List, [], ◌∷◌, ◌≡◌, refl, eqb, drop}
use Rattle.yaml_text.specs.declared.Mark.{Mark}
use Rattle.yaml_lexeme.specs.declared.Before.{Before}
use Rattle.yaml_text.specs.Char.{'#'}
use Rattle.yaml_text.specs.Class.{is_blank, is_break, none_left, peek}
use Rattle.yaml_text.specs.Mark.{Place, Run, along, before_run, here, look, nothing_at, over, skip_by}
use Rattle.yaml_text.specs.Refusal.{Read, before_read}
use Rattle.yaml_text.specs.Test.{by_pick, by_test}
use Rattle.yaml_text.specs.All.{All, all_bind, all_need, all_weak, holds, not_read}
use Rattle.yaml_text.specs.PlaceLaws.{FurtherOn, fits_along, fits_over, fits_refl, fits_trans}
use Rattle.yaml_lexeme.specs.Token.{Lexeme}
use Rattle.yaml_lexeme.specs.Gap.{Gap, GapTurn, after_gap_turn, blanks, blanks_and_comment, comment_after, gap_turn, pass, skip_gap, stop, to_break, wrong}
use Rattle.yaml_lexeme.specs.Plain.{glue, plain_stops, plain_text, scan_plain_scalar}
use Rattle.yaml_lexeme.specs.Quoted.{Mode, Quote, QuotedTurn, after_turn, chars_of, closes, goes, quoted_run, quoted_turn, scan_flow_scalar, wrong_quote}

abbrev pub FitsRun : Place → Run → Type 0
FitsRun p r = FurtherOn p r.place

-- a lexeme that goes on from p, and whose token starts at the mark
pub record Reads (start : Mark) (p : Place) (l : Lexeme) : Type 0 where
  pub onward : FurtherOn p l.place
  pub starts : l.token.start ≡ start

-- gaps

pub blanks_fit : (m : Mark) (cs : List ℕ) → FurtherOn (here m cs) (blanks m cs)
unfolding blanks
blanks_fit m [] = fits_refl _
blanks_fit m (c ∷ cs) =
    by_test (is_blank c)
    (λ e. rw (e, blanks) (fits_along m c cs (blanks_fit (along m) cs)))
    (λ e. rw (e, blanks) (fits_refl _))

pub to_break_fit : (m : Mark) (cs : List ℕ) → FurtherOn (here m cs) (to_break m cs)
unfolding to_break
to_break_fit m [] = fits_refl _
to_break_fit m (c ∷ cs) =
    by_test (is_break c)
    (λ e. rw (e, to_break) (fits_refl _))
    (λ e. rw (e, to_break) (fits_along m c cs (to_break_fit (along m) cs)))

pub comment_after_fit : (b : Bool) (p : Place) → All Place (FurtherOn p) (comment_after b p)
unfolding comment_after
comment_after_fit true p =
    by_test (eqb (look p) '#')
    (λ e. rw (e, comment_after) (holds (to_break_fit p.mark p.rest)))
    (λ e. rw (e, comment_after) (holds (fits_refl p)))
comment_after_fit false p =
    by_test (eqb (look p) '#')
    (λ e. rw (e, comment_after) not_read)
    (λ e. rw (e, comment_after) (holds (fits_refl p)))

pub blanks_and_comment_fit : (p : Place) → All Place (FurtherOn p) (blanks_and_comment p)
unfolding blanks_and_comment
blanks_and_comment_fit p =
    all_weak (λ q f. fits_trans (blanks_fit p.mark p.rest) f) (comment_after_fit (is_blank (look p)) (blanks p.mark p.rest))

gap_turned : {P : Gap → Type 0} (t : GapTurn) (go : Before → Bool → Read Gap) (end : Gap) → ((b : Before) (a : Bool) → All Gap P (go b a)) → P end
    → All Gap P (after_gap_turn t go end)
gap_turned (pass b a) go end h k = h b a
gap_turned stop go end h k = holds k
gap_turned (wrong x m) go end h k = not_read

pub skip_gap_fit : (flow allowed : Bool) (b : Before) (m : Mark) (cs : List ℕ) → All Gap (λ g. FurtherOn (here m cs) g.place) (skip_gap flow allowed b m cs)
unfolding skip_gap
skip_gap_fit flow allowed b m [] = holds (fits_refl _)
skip_gap_fit flow allowed b m (c ∷ cs) =
    gap_turned (gap_turn flow b m c) _ _
    (λ b' a. all_weak (λ g f. fits_over m c (peek cs 0) cs f) (skip_gap_fit flow (allowed || a) b' (over m c (peek cs 0)) cs))
    (fits_refl _)

-- plain scalars

pub plain_text_fit : (flow blank : Bool) (m : Mark) (cs : List ℕ) → FitsRun (here m cs) (plain_text flow blank m cs)
unfolding plain_text glue
plain_text_fit flow blank m [] = fits_refl _
plain_text_fit flow blank m (c ∷ cs) =
    by_test (plain_stops flow blank c (peek cs 0))
    (λ e. rw (e, plain_text) (fits_refl _))
    (λ e. let r = plain_text flow (is_blank c) (along m) cs in
    rw (e, plain_text) (by_pick (FitsRun (here m (c ∷ cs))) (is_blank c && none_left r.text) (nothing_at (here m (c ∷ cs))) (before_run (c ∷ []) r)
    (fits_refl _) (fits_along m c cs (plain_text_fit flow (is_blank c) (along m) cs))))

pub plain_fit : (flow : Bool) (p : Place) → Reads p.mark (skip_by 1 p) (scan_plain_scalar flow p)
unfolding scan_plain_scalar
plain_fit flow p = record { onward = plain_text_fit flow false (along p.mark) (drop 1 p.rest); starts = refl }

-- quoted scalars

pub before_fit : {p : Place} {r : Read Run} (t : List ℕ) → All Run (FitsRun p) r → All Run (FitsRun p) (before_read t r)
unfolding before_read
before_fit t (holds h) = holds h
before_fit t not_read = not_read

turned : {q : Place} (t : QuotedTurn) (go : Mode → ℕ → Read Run) (p : Place) → ((b : Mode) (k : ℕ) → All Run (FitsRun q) (go b k)) → FurtherOn q p
    → All Run (FitsRun q) (after_turn t go p)
turned (goes t b k) go p h i = before_fit t (h b k)
turned (closes t) go p h i = holds i
turned (wrong_quote x m) go p h i = not_read

pub quoted_run_fit : (q : Quote) (b : Mode) (k : ℕ) (m : Mark) (cs : List ℕ) → All Run (FitsRun (here m cs)) (quoted_run q b k m cs)
unfolding quoted_run
quoted_run_fit q b k m [] = not_read
quoted_run_fit q b zero m (c ∷ cs) =
    turned (quoted_turn q b m c cs) _ _
    (λ b' n. all_weak (λ r f. fits_over m c (peek cs 0) cs f) (quoted_run_fit q b' n (over m c (peek cs 0)) cs))
    (fits_along m c cs (fits_refl _))
quoted_run_fit q b (suc k) m (c ∷ cs) =
    all_weak (λ r f. fits_over m c (peek cs 0) cs f) (quoted_run_fit q b k (over m c (peek cs 0)) cs)

pub flow_scalar_fit : (flow single : Bool) (indent : ℕ) (p : Place) → All Lexeme (Reads p.mark (skip_by 1 p)) (scan_flow_scalar flow single indent p)
unfolding scan_flow_scalar
flow_scalar_fit flow single indent p =
    all_bind _ (quoted_run_fit _ chars_of 0 (along p.mark) (drop 1 p.rest))
    (λ r f. all_bind _ (blanks_and_comment_fit r.place)
    (λ e g. all_need _ 40 e.mark _ (holds (record { onward = fits_trans f g; starts = refl }))))
