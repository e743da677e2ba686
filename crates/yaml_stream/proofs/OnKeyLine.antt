-- Theorems about specs/OnKeyLine, and what rests on them.
use Rattle.std.specs.Prelude.{◌+◌, ℕ, Bool, true, List, [], ◌∷◌, ◌≡◌, refl, length}
use Rattle.std.proofs.Common.{le_refl}
use Rattle.std.proofs.Math.Seq.{drop-length}
use Rattle.yaml_text.specs.declared.Mark.{Mark}
use Rattle.yaml_text.specs.Mark.{Place}
use Rattle.yaml_text.specs.Test.{by_test}
use Rattle.yaml_text.specs.All.{All, all_any, all_bind, all_got, all_is, holds}
use Rattle.yaml_scan.specs.declared.Candidate.{Candidate}
use Rattle.yaml_scan.specs.declared.Candidate.TheVariants.{Absent, Possible}
use Rattle.yaml_scan.specs.declared.Limits.{Limits}
use Rattle.yaml_scan.specs.Keys.{lapse, set_key, top_key}
use Rattle.yaml_scan.specs.State.{State, allow, at_place, in_flow, lapse_key, with_keys}
use Rattle.yaml_scan.specs.Scan.{to_next_token}
use Rattle.yaml_scan.specs.Slots.{Slot}
use Rattle.yaml_stream.specs.Stream.{Stream, scanning}
use Rattle.yaml_stream.specs.Alone.{Absents, absents_drop, absents_not}
use Rattle.yaml_stream.specs.Waiting.{StreamReaches}
use Rattle.yaml_stream.specs.Ahead.{ahead_reaches}
use Rattle.yaml_stream.proofs.Ahead.{free_ahead}
use Rattle.yaml_stream.specs.InList.{Listed}
use Rattle.yaml_stream.specs.OnKeyLine.{opens_list, opened_listed, colon_uses, KeyLine}

-- where no candidate is left, all that waits is given, without a step
pub drained : (limits : Limits) (room : ℕ) {x : Stream} (s : State) (n used : ℕ) (xs : List Slot) → Absents s.keys → StreamReaches limits room x (scanning s n xs used)
    → (k : ℕ) × StreamReaches limits room x (scanning s k [] used)
drained limits room s n used xs h r =
    let k = length xs in
    (n + k, rw (drop-length xs) at (ahead_reaches limits room r (free_ahead limits room s n k xs used (le_refl k) (λ i _. absents_not i s.keys h))))

lapse_none : (m : Mark) (ks : List Candidate) → Absents ks → All Candidate (λ c. c ≡ Absent) (lapse m (top_key ks))
unfolding lapse top_key
lapse_none m [] h = holds refl
lapse_none m (Absent ∷ ks) h = holds refl
lapse_none m (Possible required k i ∷ ks) h = absurd h

lapse_absents : (s : State) (p : Place) (leads b : Bool) → Absents s.keys → All State (λ v. Absents v.keys) (lapse_key (at_place p leads (allow b s)))
unfolding lapse_key in_flow
lapse_absents s p leads b h =
    by_test (in_flow s)
    (λ e. rw (e, lapse_key) (holds {a = at_place p leads (allow b s)} h))
    (λ e. rw (e, lapse_key) (all_is _ (lapse_none p.mark s.keys h) (holds {a = with_keys (set_key Absent s.keys) (at_place p leads (allow b s))} (absents_drop s.keys h))))

gap_absents : (s : State) → Absents s.keys → All State (λ v. Absents v.keys) (to_next_token s)
unfolding to_next_token
gap_absents s h = all_bind _ (all_any _) (λ g _. lapse_absents s g.place g.leading_whitespace g.simple_key_allowed h)

colon_none : {limits : Limits} {s u : State} (l : KeyLine limits s u) → Absents l.value.keys
colon_none {limits} {s} l =
    let c = all_got (colon_uses limits s l.at_colon l.required l.number l.mark l.first_gap l.colon l.candidate) l.first_step in
    rw c.1 (l.alone l.outside)

bracket_none : {limits : Limits} {s u : State} (l : KeyLine limits s u) → (in_flow u ≡ true) × Absents u.keys
bracket_none {limits} l =
    let h = all_got (gap_absents l.value (colon_none l)) l.second_gap in
    all_got (opens_list limits l.sequence l.value l.at_bracket l.second_gap l.bracket l.forbidden h) l.second_step

-- so what waits is given, and the list stands before its first entry
pub on_key_line : {limits : Limits} {s u : State} {x : Stream} {n used : ℕ} {xs : List Slot} (room : ℕ) → KeyLine limits s u → StreamReaches limits room x (scanning u n xs used)
    → (k : ℕ) × StreamReaches limits room x (scanning u k [] used) × Listed u []
on_key_line {limits} {s} {u} {n = n} {used = used} {xs = xs} room l r =
    let o = bracket_none l in
    let d = drained limits room u n used xs o.1 r in
    (d.0, d.1, opened_listed u o.0 o.1)
