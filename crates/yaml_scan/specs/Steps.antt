-- A step is a gap with the lapse, the ends of blocks, and a move.
use Rattle.std.specs.Prelude.{◌*◌, ◌+◌, ◌<◌, ◌≤◌, ℕ, Bool, false, true, List, [], ◌∷◌, ◌⊎◌, ◌≡◌}
use Rattle.std.proofs.Common.{inl, inr, arith}
use Rattle.yaml_text.specs.declared.Mark.{Mark}
use Rattle.yaml_text.specs.Class.{is_blank, is_blank_or_breakz, is_break, is_breakz, is_z, peek}
use Rattle.yaml_text.specs.Mark.{Place, here, look, over}
use Rattle.yaml_text.specs.Refusal.{got}
use Rattle.yaml_text.specs.Test.{by_pick, by_test}
use Rattle.yaml_text.specs.All.{All, all_bind, all_both, all_weak, holds}
use Rattle.yaml_text.specs.DecodeLaws.{NoNul}
use Rattle.yaml_text.specs.PlaceLaws.{FurtherOn, fits_left, left}
use Rattle.yaml_lexeme.specs.declared.Before.{Before}
use Rattle.yaml_lexeme.specs.Gap.{Gap, gap_turn, skip_gap}
use Rattle.yaml_lexeme.specs.Block.{one_if}
use Rattle.yaml_lexeme.specs.Fits.{skip_gap_fit}
use Rattle.yaml_scan.specs.declared.Candidate.{Candidate}
use Rattle.yaml_scan.specs.declared.Candidate.TheVariants.{Absent}
use Rattle.yaml_scan.specs.Keys.{set_key, top_key}
use Rattle.yaml_scan.specs.State.{News, State, allow, at_place, counting, ends_with, goes_on, in_flow, lapse_key, mark_of, rest_of, with_indents, with_keys}
use Rattle.yaml_scan.specs.Scan.{to_next_token, unrolled}
use Rattle.yaml_scan.specs.Candidates.{Over}
use Rattle.yaml_scan.specs.Runs.{lapsed}

-- a blank or a break is passed over: from p, before which it stands, to q
abbrev pub Spares : Place → Place → Type 0
Spares p q = one_if (is_blank_or_breakz (look p)) + 2 * left q ≤ one_if (is_z (look q)) + 2 * left p

-- what becomes of the candidates at the mark m
pub data Lapses (s : State) (m : Mark) : List Candidate → Type 0 where
  inside : in_flow s ≡ true → Lapses s m s.keys
  lapses : in_flow s ≡ false → Lapses s m (set_key Absent s.keys)
  stays : in_flow s ≡ false → (Over m (top_key s.keys) → ⊥) → Lapses s m (set_key (top_key s.keys) s.keys)

pub data Gapped (s : State) : State → Type 0 where
  gapped : {p : Place} {leads a : Bool} {ks : List Candidate} → FurtherOn s.place p → (NoNul (rest_of s) → Spares s.place p) → Lapses s p.mark ks
      → Gapped s (with_keys ks (at_place p leads (allow a s)))

pub one_most : (b : Bool) → one_if b ≤ 1
one_most b = by_pick (λ (n : ℕ). n ≤ 1) b _ _ (omega arith) (omega arith)

no_gap : (c : ℕ) → is_break c ≡ false → is_blank c ≡ false → is_z c ≡ false → is_blank_or_breakz c ≡ false
unfolding is_blank_or_breakz is_breakz
no_gap c e f z = rw (e, f, z)

gap_spares : (flow allowed : Bool) (b : Before) (m : Mark) (cs : List ℕ) → All Gap (λ g. NoNul cs → Spares (here m cs) g.place) (skip_gap flow allowed b m cs)
unfolding skip_gap gap_turn is_z
gap_spares flow allowed b m [] = let h : NoNul [] → Spares (here m []) (here m []) = λ _. omega (arith, one_most (is_blank_or_breakz 0)) in holds h
gap_spares flow allowed b m (c ∷ cs) =
    by_test (is_break c)
    (λ e. rw (e, gap_turn) (all_weak (λ g f _. omega (arith, one_most (is_blank_or_breakz c), fits_left f)) (skip_gap_fit _ _ _ (over m c (peek cs 0)) cs)))
    (λ e. by_test (is_blank c)
    (λ f. rw (e, f, gap_turn) (all_weak (λ g h _. omega (arith, one_most (is_blank_or_breakz c), fits_left h)) (skip_gap_fit _ _ _ (over m c (peek cs 0)) cs)))
    (λ f. all_weak (λ g h n. let z : one_if (is_blank_or_breakz c) ≡ 0 = rw (no_gap c e f n.0) in omega (arith, fits_left h)) (skip_gap_fit flow allowed b m (c ∷ cs))))

-- the gap and the lapse

gap_made : {s : State} (p : Place) (leads a : Bool) (ks : List Candidate) → FurtherOn s.place p → (NoNul (rest_of s) → Spares s.place p) → Lapses s p.mark ks
    → All State (Gapped s) (got (with_keys ks (at_place p leads (allow a s))))
gap_made {s} p leads a ks f h l = let g : Gapped s (with_keys ks (at_place p leads (allow a s))) = gapped f h l in holds g

lapse_gapped : (s : State) (p : Place) (leads a : Bool) → FurtherOn s.place p → (NoNul (rest_of s) → Spares s.place p)
    → All State (Gapped s) (lapse_key (at_place p leads (allow a s)))
unfolding lapse_key in_flow
lapse_gapped s p leads a f h =
    by_test (in_flow s)
    (λ e. rw (e, lapse_key) (gap_made p leads a s.keys f h (inside e)))
    (λ e. rw (e, lapse_key) (all_bind _ (lapsed p.mark (top_key s.keys)) (λ c k. by_lapse e c k)))
  where
    by_lapse : in_flow s ≡ false → (c : Candidate) → (c ≡ Absent) ⊎ ((c ≡ top_key s.keys) × (Over p.mark (top_key s.keys) → ⊥))
        → All State (Gapped s) (got (with_keys (set_key c s.keys) (at_place p leads (allow a s))))
    by_lapse e c (inl k) = rw k (gap_made p leads a _ f h (lapses e))
    by_lapse e c (inr k) = rw k.0 (gap_made p leads a _ f h (stays e k.1))

pub to_next_token_gapped : (s : State) → All State (Gapped s) (to_next_token s)
unfolding to_next_token
to_next_token_gapped s =
    all_bind _ (all_both (skip_gap_fit _ _ _ (mark_of s) (rest_of s)) (gap_spares _ _ _ (mark_of s) (rest_of s)))
    (λ g h. lapse_gapped s g.place g.leading_whitespace g.simple_key_allowed h.0 h.1)

-- one token

-- a move takes a character
abbrev pub Takes : State → News → Type 0
Takes s (goes_on es u) = (left u.place < left s.place) × FurtherOn s.place u.place
Takes s (ends_with es) = Unit {0}

-- behind the ends of blocks
abbrev pub unrolled_state : State → State
unrolled_state s = counting (unrolled s).ended (with_indents (unrolled s).indents s)
