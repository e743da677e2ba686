-- A document marker is three characters of one byte; behind it the reading goes on as the definition's does, and then all blocks are left.
use Prim.Native.Nat.{◌+◌, ◌<◌, ◌≤◌, ℕ}
use mathlib.Core.Bool.{Bool, ◌&&◌, ◌||◌, false, true}
use mathlib.Core.List.{List, [], ◌++◌, ◌∷◌}
use mathlib.Core.Path.{◌∙◌, ◌≡◌, refl, sym}
use native.Mathlib.Omega.{arith}
use lib.Dec.{eqb}
use lib.ListN.{drop}
use borrow.Author.Tests.{eqb-true, le-ltb, lt-ltb}
use Rattle.std.specs.Prelude.{Result, Ok, Err}
use Rattle.yaml_text.specs.declared.Mark.{Mark}
use Rattle.yaml_text.specs.declared.Refusal.{Refusal}
use Rattle.yaml_text.specs.Char.{'-', dot}
use Rattle.yaml_text.specs.Class.{is_blank_or_breakz, is_breakz, peek}
use Rattle.yaml_text.specs.Mark.{along_by, is_marker, look, skip_by}
use Rattle.yaml_text.specs.Pick.{pick}
use Rattle.yaml_text.specs.Refusal.{◌>>=◌, need}
use Rattle.yaml_text.specs.Test.{both_true}
use Rattle.yaml_text.specs.Utf8.{chars}
use Rattle.yaml_text.specs.Utf8Laws.{bytes1}
use Rattle.yaml_lexeme.specs.declared.Kind.TheVariants as held_as
use Rattle.yaml_lexeme.specs.declared.Token as held
use Rattle.yaml_lexeme.specs.Gap.{blanks_and_comment}
use Rattle.yaml_lexeme.specs.Record.{laid}
use Rattle.yaml_lexeme.specs.Token.{DocumentEnd, DocumentStart, kind_bytes}
use Rattle.yaml_scan.specs.declared.Limits.{Limits}
use Rattle.yaml_scan.specs.Document.{after_marker, all_ends, fetch_document_indicator, leave_blocks}
use Rattle.yaml_scan.specs.State.{allow, at_place, emit, put, remove_key}
use Rattle.chars.specs.declared.mark.Place.{Place}
use Rattle.chars.specs.Ascii.{ascii_low}
use Rattle.chars.specs.Bytes.{peek_char}
use Rattle.chars.specs.Lines.{marker_ascii}
use Rattle.chars.specs.Places.{moves_along}
use Rattle.chars.specs.Reach.{Reach, more, none}
use Rattle.chars.specs.View.{Moves, Stands, past, view}
use Rattle.reading.specs.Reading.{ReachesAs, seen_place}
use Rattle.stacks.specs.declared.indent.Unrolled.{Unrolled}
use Rattle.events.specs.declared.Counts.{Counts}
use Rattle.events.specs.Laid.{Textless}
use Rattle.states.specs.declared.State.{State}
use Rattle.states.specs.Answer.{fetch_refused}
use Rattle.states.specs.Fetch.{FetchesQuiet, Ready}
use Rattle.states.specs.Key.{removed_words}
use Rattle.states.specs.Seen.{in_flow_seen}
use Rattle.states.specs.State.{state_of}
use Rattle.documents.specs.Leave.{LeavesBlocks, goes_outside}
use Rattle.documents.proofs.Leave.{fetch_outside}

-- three characters of one byte

marker_reach : (m : Mark) (text : List ℕ) (at : ℕ) → is_marker m (chars (drop at text)) ≡ true → Reach text at 3 (at + 3)
unfolding is_marker
marker_reach m text at e =
    let cs = chars (drop at text) in
    let c = peek cs 0 in
    let t1 = eqb m.col 0 in
    let t2 = eqb c '-' || eqb c dot in
    let t3 = eqb (peek cs 1) c in
    let t4 = eqb (peek cs 2) c in
    let b4 = both_true (t1 && t2 && t3 && t4) (is_blank_or_breakz (peek cs 3)) e in
    let b3 = both_true (t1 && t2 && t3) t4 b4.0 in
    let b2 = both_true (t1 && t2) t3 b3.0 in
    let l = ascii_low marker_ascii c (both_true t1 t2 b2.0).1 in
    let x = rw (bytes1 c l.1) at (peek_char text at c refl l.0) in
    let y = rw (bytes1 c l.1) at (peek_char text (at + 1) c (sym (eqb-true (peek cs 1) c b2.1) ∙ rw x.next) l.0) in
    let z = rw (bytes1 c l.1) at (peek_char text (at + 1 + 1) c (sym (eqb-true (peek cs 2) c b3.1) ∙ rw (x.next, y.next)) l.0) in
    let k : at + 1 + 1 + 1 ≡ at + 3 = omega arith in
    rw k at (more x (more y (more z none)))

abbrev pub behind_marker : Place → Place
behind_marker p = past p 3 (along_by 3 p.mark)

pub marker_moves : {text : List ℕ} {p : Place} → Stands text p → is_marker p.mark (chars (drop p.at text)) ≡ true
    → Moves text p (behind_marker p) (skip_by 3 (view text p))
marker_moves {text} {p} h e = moves_along h 3 3 (marker_reach p.mark text p.at e)

-- what follows it

module _ {text : List ℕ} {p : Place} {starts : Bool} where
  pub after_start : starts ≡ true → Stands text p → ReachesAs text p (Ok p) (after_marker starts (view text p))
  unfolding after_marker seen_place
  after_start e h = record { same = rw (e, after_marker); onward = (h, omega arith) }

  module _ (f : starts ≡ false) where
    pub after_refused : {f : Refusal} → ReachesAs text p (Err f) (blanks_and_comment (view text p))
        → ReachesAs text p (Err f) (after_marker starts (view text p))
    unfolding after_marker seen_place ◌>>=◌
    after_refused k = record { same = rw (f, after_marker, ← k.same); onward = tt }

    module _ {q : Place} (k : ReachesAs text p (Ok q) (blanks_and_comment (view text p))) where
      pub after_break : is_breakz (look (view text q)) ≡ true → ReachesAs text p (Ok q) (after_marker starts (view text p))
      unfolding after_marker seen_place ◌>>=◌ need
      after_break b = record { same = rw (f, after_marker, ← k.same, b); onward = k.onward }

      pub after_text : is_breakz (look (view text q)) ≡ false
          → ReachesAs text p (Err (record { number = 49; mark = q.mark })) (after_marker starts (view text p))
      unfolding after_marker seen_place ◌>>=◌ need
      after_text b = record { same = rw (f, after_marker, ← k.same, b); onward = tt }

-- the whole

abbrev held_of : Bool → Mark → held.Token
held_of starts m = record { kind = pick starts held_as.DocumentStart held_as.DocumentEnd; start = m; end = along_by 3 m }

kinds : (starts : Bool) → Textless (pick starts DocumentStart DocumentEnd) (pick starts held_as.DocumentStart held_as.DocumentEnd)
unfolding laid kind_bytes
kinds true = record { same = λ used. refl; bytes = refl }
kinds false = record { same = λ used. refl; bytes = refl }

-- what the definition answers, by what was reached behind the marker
module _ (text a : List ℕ) (count : ℕ) (s : State) (starts : Bool) where
  begun : {r : Result Place Refusal} → s.flow_level ≤ 0 → Moves text s.place (behind_marker s.place) (skip_by 3 (view text s.place))
      → ReachesAs text (behind_marker s.place) r (after_marker starts (view text (behind_marker s.place)))
      → fetch_document_indicator starts (state_of text a count s)
      ≡ seen_place text r >>= λ p.
      emit (all_ends (state_of text a count s) ++ (put (record { kind = pick starts DocumentStart DocumentEnd; start = s.place.mark; end = along_by 3 s.place.mark }) ∷ []))
      (at_place p false (allow false (leave_blocks (state_of text a count s))))
  unfolding fetch_document_indicator leave_blocks remove_key need ◌>>=◌
  begun h m v = rw (in_flow_seen text a count s, le-ltb 0 s.flow_level h, v.same, m.same)

module _ {limits : Limits} {text a : List ℕ} {n : Counts} {s : State} (starts : Bool) where
  pub marker_flow : 0 < s.flow_level
      → FetchesQuiet limits text a a (removed_words a s) n s (fetch_document_indicator starts (state_of text a n.count s)) (Err (record { number = 47; mark = s.place.mark }))
  unfolding fetch_document_indicator need ◌>>=◌
  marker_flow h = fetch_refused (rw (in_flow_seen text a n.count s, lt-ltb 0 s.flow_level h)) refl

  module _ (h : s.flow_level ≤ 0) (m : Moves text s.place (behind_marker s.place) (skip_by 3 (view text s.place))) where
    pub marker_refused : {f : Refusal} → ReachesAs text (behind_marker s.place) (Err f) (after_marker starts (view text (behind_marker s.place)))
        → FetchesQuiet limits text a a (removed_words a s) n s (fetch_document_indicator starts (state_of text a n.count s)) (Err f)
    unfolding seen_place ◌>>=◌
    marker_refused v = fetch_refused (begun text a n.count s starts h m v) refl

    pub marker_goes : {e : List ℕ} {u : Unrolled} {next : Place} → Ready limits text a s
        → ReachesAs text (behind_marker s.place) (Ok next) (after_marker starts (view text (behind_marker s.place))) → LeavesBlocks a e s u
        → FetchesQuiet limits text a e (removed_words a s) n s (fetch_document_indicator starts (state_of text a n.count s))
        (Ok (goes_outside s u next false false (held_of starts s.place.mark)))
    unfolding seen_place ◌>>=◌
    marker_goes {next = next} y v l =
        fetch_outside y l (kinds starts) (view text next) (along_by 3 s.place.mark) false false refl v.onward.0 (omega (arith, v.onward.1))
        (begun text a n.count s starts h m v ∙ rw (← l.same text n.count))
