-- The token of a bracket or ',': the code reads the blanks and comment from behind its own byte, as the definition does, and goes on there.
use Prim.Native.Nat.{◌≤◌, ℕ}
use mathlib.Core.Bool.{Bool, false, true}
use mathlib.Core.List.{List, [], ◌++◌, ◌∷◌}
use mathlib.Core.Path.{◌∙◌, ◌≡◌, refl}
use native.Mathlib.Omega.{arith}
use lib.ListN.{get_or}
use Rattle.yaml_text.specs.declared.Refusal.{Refusal}
use Rattle.yaml_text.specs.Mark.{along, skip_by}
use Rattle.yaml_text.specs.Pick.{pick}
use Rattle.yaml_text.specs.Refusal.{Read, ◌>>=◌, got, refused}
use Rattle.yaml_lexeme.specs.declared.Kind as held
use Rattle.yaml_lexeme.specs.declared.Kind.TheVariants as held_as
use Rattle.yaml_lexeme.specs.Gap.{blanks_and_comment}
use Rattle.yaml_lexeme.specs.Record.{laid}
use Rattle.yaml_lexeme.specs.Token.{FlowEntry, FlowMappingEnd, FlowMappingStart, FlowSequenceEnd, FlowSequenceStart, Kind, kind_bytes, lexeme}
use Rattle.yaml_scan.specs.declared.Limits.{Limits}
use Rattle.yaml_scan.specs.Bracket.{scan_bracket}
use Rattle.yaml_scan.specs.State.{News, empty_if, put}
use Rattle.yaml_scan.specs.State as definition
use Rattle.chars.specs.declared.mark.Place.{Place}
use Rattle.chars.specs.Bytes.{byte_char}
use Rattle.chars.specs.Places.{moves_along}
use Rattle.chars.specs.Reach.{reach_one}
use Rattle.chars.specs.View.{Moves, Stands, past, view}
use Rattle.std.specs.Prelude.{Result, Ok, Err}
use Rattle.reading.specs.Reading.{ReachesAs, seen_place}
use Rattle.stacks.specs.declared.indent.Indents.{Indents}
use Rattle.stacks.specs.Indent.{Low}
use Rattle.events.specs.declared.Counts.{Counts}
use Rattle.events.specs.Event.{laid_events}
use Rattle.events.specs.Laid.{Textless, laid_of_opening, laid_opening, laid_textless, opens_flow_end, textless_size}
use Rattle.states.specs.declared.State.{State}
use Rattle.states.specs.Answer.{fetch_quiet}
use Rattle.states.specs.Brief.{brief_fetched}
use Rattle.states.specs.Fetch.{FetchesQuiet, OneByte}
use Rattle.states.specs.State.{s_with_indents, s_with_level, state_of}
use Rattle.brackets.specs.Emit.{emit_bracket, goes_past, past_bracket}

-- the kinds, none of which has text

pub opens : (sequence : Bool) → Textless (pick sequence FlowSequenceStart FlowMappingStart) (pick sequence held_as.FlowSequenceStart held_as.FlowMappingStart)
unfolding laid kind_bytes
opens true = record { same = λ used. refl; bytes = refl }
opens false = record { same = λ used. refl; bytes = refl }

pub closes : (sequence : Bool) → Textless (pick sequence FlowSequenceEnd FlowMappingEnd) (pick sequence held_as.FlowSequenceEnd held_as.FlowMappingEnd)
unfolding laid kind_bytes
closes true = record { same = λ used. refl; bytes = refl }
closes false = record { same = λ used. refl; bytes = refl }

pub comma : Textless FlowEntry held_as.FlowEntry
unfolding laid kind_bytes
comma = record { same = λ used. refl; bytes = refl }

-- behind the bracket's own byte
abbrev pub second : Place → Place
second p = past p 1 (along p.mark)

-- what is reached from there, over blanks and a comment
abbrev pub Past : List ℕ → Place → Result Place Refusal → Type 0
Past text p r = ReachesAs text (second p) r (blanks_and_comment (view text (second p)))

module _ {text : List ℕ} {p : Place} (h : Stands text p) (b : OneByte text p) where
  moved : Moves text p (second p) (skip_by 1 (view text p))
  moved = moves_along h 1 1 (reach_one (byte_char text p.at (get_or text p.at 0) refl b.some b.ascii))

  pub stands_second : Stands text (second p)
  stands_second = moved.stands

  -- what the definition reads
  scanned : {r : Result Place Refusal} → Past text p r → (k : Kind) → scan_bracket k (view text p) ≡ (seen_place text r >>= λ e. got (lexeme k p.mark e.mark e))
  unfolding scan_bracket
  scanned w k = rw (← moved.same, w.same)

  pub emits_refused : {f : Refusal} → Past text p (Err f) → (k : Kind) (implicit last : Bool) (x : definition.State) → x.place ≡ view text p
      → emit_bracket k implicit last x ≡ refused f.number f.mark
  unfolding emit_bracket seen_place ◌>>=◌
  emits_refused w k implicit last x v = rw (v, scanned w k)

-- from the state s, behind the token with the indents i at the flow level l; from the words a to e, which are to be u
pub emits_to : {limits : Limits} {text a e u : List ℕ} {n : Counts} {s : State} {i : Indents} {l : ℕ} {k : Kind} {c : held.Kind} {d : Read News} {next : Place} (implicit last : Bool)
    → Stands text s.place → OneByte text s.place → Past text s.place (Ok next) → Textless k c
    → Low limits.entries i → l ≤ limits.levels
    → d ≡ emit_bracket k implicit last (state_of text e n.count (s_with_level (s_with_indents s i) l)) → e ≡ u
    → FetchesQuiet limits text a e u n s d (brief_fetched (Ok (goes_past (s_with_level (s_with_indents s i) l) implicit c next last)))
unfolding emit_bracket seen_place ◌>>=◌ laid_events
emits_to {text = text} {e = e} {n = n} {s} {i} {l} {k} {next = next} implicit last h b w z low deep tells words =
    let m = s.place.mark in
    let token = put (record { kind = k; start = m; end = next.mark }) ∷ [] in
    let on = w.onward in
    let none = textless_size z in
    fetch_quiet (empty_if implicit FlowMappingEnd m ++ token)
    (laid_of_opening _ _ _ ∙ rw (laid_opening opens_flow_end n.used m token implicit, laid_textless z n.used m next.mark []))
    (past_bracket (view text next) last (state_of text e n.count (s_with_level (s_with_indents s i) l)))
    (tells ∙ rw (scanned h b w k))
    refl
    (record {
      sane = record { stands = on.0; low = low; deep = deep };
      onward = on.1;
      size = omega (arith, on.1);
      closed = omega arith;
    })
    none words
