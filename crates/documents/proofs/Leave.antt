-- Leaving all blocks is an unrolling below every column and a candidate's removal, which leaves the entries; a token behind the ends goes on from there.
use Prim.Native.Nat.{◌+◌, ◌≤◌, ℕ}
use mathlib.Core.Bool.{Bool}
use mathlib.Core.List.{List, [], ◌++◌, ◌∷◌}
use mathlib.Core.Path.{◌∙◌, ◌≡◌, ap, sym}
use native.Mathlib.Omega.{arith}
use Rattle.std.specs.Prelude.{Ok}
use Rattle.yaml_text.specs.declared.Mark.{Mark}
use Rattle.yaml_text.specs.Mark as mark
use Rattle.yaml_text.specs.Refusal.{Read}
use Rattle.yaml_lexeme.specs.declared.Kind as held
use Rattle.yaml_lexeme.specs.Token.{Kind}
use Rattle.yaml_scan.specs.declared.Limits.{Limits}
use Rattle.yaml_scan.specs.Document.{all_ends, leave_blocks}
use Rattle.yaml_scan.specs.Indent as definition
use Rattle.yaml_scan.specs.State.{News, allow, at_place, block_ends, emit, put, remove_key}
use Rattle.chars.specs.declared.mark.Place.{Place}
use Rattle.chars.specs.View.{Stands, view}
use Rattle.stacks.specs.declared.indent.Unrolled.{Unrolled}
use Rattle.stacks.specs.Frame.{frame_keys}
use Rattle.stacks.specs.Indent.{Unrolls}
use Rattle.stacks.specs.Stack.{entry_words}
use Rattle.stacks.proofs.Entries.{low_below}
use Rattle.events.specs.declared.Counts.{Counts}
use Rattle.events.specs.Event.{closing_of, laid_events, laid_of}
use Rattle.events.specs.Laid.{Textless, laid_ends, laid_of_closing, laid_textless, textless_size}
use Rattle.states.specs.declared.State.{State}
use Rattle.states.specs.Answer.{fetch_quiet}
use Rattle.states.specs.Fetch.{FetchesQuiet, Ready}
use Rattle.states.specs.Key.{Removes, removed_words}
use Rattle.states.specs.State.{s_with_indents, state_of}
use Rattle.states.proofs.Keys.{key_seen}
use Rattle.documents.specs.Leave.{LeavesBlocks, goes_outside}

pub leaves : {a e : List ℕ} {s : State} {u : Unrolled} → s.indents.depth ≤ entry_words → Unrolls a 0 s.indents u → Removes a e s → LeavesBlocks a e s u
unfolding leave_blocks remove_key frame_keys
leaves {s = s} {u} h w k =
    record {
      words = k.words;
      same = λ text count. key_seen (s_with_indents s u.indents) k.sets (omega (arith, w.below.depth)) text count ∙ rw (← w.same);
      ended = ap (λ (x : definition.Unrolled). x.ended) w.same;
      few = w.few;
      below = w.below;
    }

-- a token without text behind ends of blocks
pub laid_behind_ends : {k : Kind} {h : held.Kind} → Textless k h → (m : Mark) (used n : ℕ) (start end : Mark)
    → laid_of m (closing_of n (record { kind = h; start = start; end = end })) ≡ laid_events used (block_ends n start ++ (put (record { kind = k; start = start; end = end }) ∷ []))
unfolding laid_events
laid_behind_ends t m used n start end =
    laid_of_closing m _ n ∙ sym (laid_ends start (put _ ∷ []) used n ∙ rw (laid_textless t used start end []))

-- on from p behind such a token, as the definition from q
pub fetch_outside : {limits : Limits} {text a e : List ℕ} {n : Counts} {s : State} {u : Unrolled} → Ready limits text a s → LeavesBlocks a e s u
    → {k : Kind} {h : held.Kind} → Textless k h → {p : Place} (q : mark.Place) (end : Mark) (leads allowed : Bool) {d : Read News}
    → view text p ≡ q → Stands text p → s.place.at + 1 ≤ p.at
    → d ≡ emit (all_ends (state_of text a n.count s) ++ (put (record { kind = k; start = s.place.mark; end = end }) ∷ []))
    (at_place q leads (allow allowed (state_of text e n.count (s_with_indents s u.indents))))
    → FetchesQuiet limits text a e (removed_words a s) n s d (Ok (goes_outside s u p leads allowed (record { kind = h; start = s.place.mark; end = end })))
fetch_outside {text = text} {e = e} {n = n} {s = s} {u} y l {k} t q end leads allowed v h on i =
    let m = s.place.mark in
    let z = textless_size t in
    fetch_quiet (block_ends u.ended m ++ (put (record { kind = k; start = m; end = end }) ∷ [])) (laid_behind_ends t _ n.used u.ended m end)
    (at_place q leads (allow allowed (state_of text e n.count (s_with_indents s u.indents)))) (i ∙ rw l.ended) (rw v)
    (record {
      sane = record { stands = h; low = low_below y.low l.below; deep = y.deep };
      onward = on;
      size = omega arith;
      closed = omega (arith, l.few, y.low.deep, y.lent.entries_most);
    })
    z l.words
