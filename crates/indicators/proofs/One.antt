-- An answer that goes on from behind one character of one byte: the definition skips that character.
use Prim.Native.Nat.{ℕ}
use mathlib.Core.Bool.{Bool, false}
use mathlib.Core.List.{List}
use mathlib.Core.Path.{◌≡◌, refl}
use native.Mathlib.Omega.{arith}
use lib.ListN.{get_or}
use Rattle.std.specs.Prelude.{Ok}
use Rattle.yaml_text.specs.Mark.{skip_by}
use Rattle.yaml_text.specs.Refusal.{Read}
use Rattle.yaml_lexeme.specs.declared.Kind.{Kind}
use Rattle.yaml_lexeme.specs.Token as tokens
use Rattle.yaml_scan.specs.declared.Limits.{Limits}
use Rattle.yaml_scan.specs.State.{Event, News, allow, at_place, emit}
use Rattle.chars.specs.Bytes.{byte_char}
use Rattle.chars.specs.Reach.{reach_one}
use Rattle.chars.specs.View.{view}
use Rattle.chars.specs.Places.{moves_along}
use Rattle.stacks.specs.declared.indent.Indents.{Indents}
use Rattle.stacks.specs.Frame.{key_of}
use Rattle.stacks.specs.Indent.{Low}
use Rattle.events.specs.declared.Counts.{Counts}
use Rattle.events.specs.declared.Note.{Note}
use Rattle.events.specs.declared.Opening.{Opening}
use Rattle.events.specs.Event.{laid_events, laid_of}
use Rattle.events.specs.Laid.{Textless, textless_size}
use Rattle.states.specs.declared.State.{State}
use Rattle.states.specs.State.{key_mark, s_with_indents, state_of}
use Rattle.states.specs.Fetch.{FetchesQuiet, OneByte, Ready}
use Rattle.states.specs.Answer.{fetch_quiet}
use Rattle.indicators.specs.Indicator.{event_one, goes_one}

-- from the words a to e, which are to be w
module _ {limits : Limits} {text a e w : List ℕ} {n : Counts} {s : State} (y : Ready limits text a s) (b : OneByte text s.place)
    {i : Indents} (low : Low limits.entries i) where
  pub one_goes : {t : Note} {o : Opening} {k : tokens.Kind} {kind : Kind} {allowed : Bool} {d : Read News} (events : List Event)
      → laid_of (key_mark (key_of a s.flow_level)) (event_one t o kind s.place) ≡ laid_events n.used events → Textless k kind
      → d ≡ emit events (at_place (skip_by 1 (view text s.place)) false (allow allowed (state_of text e n.count (s_with_indents s i)))) → e ≡ w
      → FetchesQuiet limits text a e w n s d (Ok (goes_one (s_with_indents s i) t o kind allowed))
  one_goes {allowed = allowed} events said t i q =
      let m = moves_along y.stands 1 1 (reach_one (byte_char text s.place.at (get_or text s.place.at 0) refl b.some b.ascii)) in
      fetch_quiet events said (at_place (skip_by 1 (view text s.place)) false (allow allowed (state_of text e n.count (s_with_indents s _)))) i
      (rw m.same)
      record {
        sane = record { stands = m.stands; low = low; deep = y.deep };
        onward = omega arith;
        size = omega (arith, textless_size t);
        closed = omega arith;
      }
      (textless_size t) q
