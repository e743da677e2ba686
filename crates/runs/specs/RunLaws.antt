-- What the contracts of runs tell their callers.
use Rattle.std.specs.Prelude.{◌+◌, ◌-◌, ◌≤◌, ℕ, false, true, List, Result, Ok, Err, ◌++◌, refl, drop, length}
use Rattle.std.proofs.Common.{◌∙◌, sym, arith, length-append, length-drop, length-take-le, eq-eqb, ne_eqb}
use Rattle.std.proofs.Math.Path.{◌≡◌, ap}
use Rattle.std.proofs.lemmas.List.Edits.{sets}
use Rattle.rooms.specs.Room.{sets_join}
use Rattle.yaml_text.specs.declared.Refusal.{Refusal}
use Rattle.yaml_text.specs.Class.{none_left}
use Rattle.yaml_text.specs.Mark as definition
use Rattle.yaml_text.specs.Refusal.{Read, before_read, got, refused}
use Rattle.yaml_text.specs.Utf8.{encode}
use Rattle.yaml_text.specs.Utf8Laws.{encode_append}
use Rattle.yaml_lexeme.specs.Token.{size}
use Rattle.chars.specs.declared.mark.Place.{Place}
use Rattle.chars.specs.Parts.{Spans}
use Rattle.chars.specs.View.{Stands, view}
use Rattle.reading.specs.declared.Written.{Written}
use Rattle.runs.specs.Encode.{none_size}
use Rattle.runs.specs.Run.{Writes, WrittenRun, seen_run, written}

-- the text of a run that was passed over takes the bytes between
module _ {text : List ℕ} {p r : Place} {d : definition.Run} (h : Spans text p r d) where
  pub span_size : size d.text ≡ r.at - p.at
  span_size =
      let k : r.at - p.at ≤ length (drop p.at text) = (let l = length-drop p.at text in omega (arith, h.moves.stands.within)) in
      ap length h.bytes ∙ length-take-le (r.at - p.at) (drop p.at text) k

  pub span_none : r.at ≡ p.at → none_left d.text ≡ true
  span_none e = none_size d.text ∙ eq-eqb (size d.text) 0 (let k = span_size in omega arith)

  pub span_some : (r.at ≡ p.at → ⊥) → none_left d.text ≡ false
  span_some e = none_size d.text ∙ ne_eqb (size d.text) 0 (let k = span_size in let o = h.moves.onward in omega arith)

-- a run that was written up to w
pub record Ran (text before after : List ℕ) (p : Place) (n : ℕ) (w : Written) (d : Read definition.Run) : Type 0 where
  pub run : List ℕ
  pub is : d ≡ got (record { text = run; place = view text w.place })
  pub next : w.count ≡ n + size run
  pub bytes : after ≡ sets before n (encode run)
  pub stands : Stands text w.place
  pub few : w.count + p.at ≤ n + w.place.at

got_is : {A : Type 0} {a b : A} → got a ≡ got b → a ≡ b
got_is e = cc

module _ {text before after : List ℕ} {p : Place} {n : ℕ} {r : Result Written Refusal} where
  pub ran : {w : Written} {d : Read definition.Run} → Writes text before after p n r d → r ≡ Ok w → Ran text before after p n w d
  unfolding seen_run written
  ran {d = got x} h e =
      let w = got_is (rw e at h.same) in
      let a = rw e at h.ahead in
      record {
        run = x.text;
        is = ap (λ (y : definition.Place). got (record { text = x.text; place = y })) (sym (ap (λ (y : WrittenRun). y.place) w));
        next = ap (λ (y : WrittenRun). y.next) w;
        bytes = ap (λ (y : WrittenRun). y.bytes) w;
        stands = a.0;
        few = a.1;
      }
  ran {d = refused m f} h e = let u = rw e at h.same in let z : ◌≡◌ {A = ℕ} 0 1 = cc in absurd (omega arith)

  pub run_refused : {f : Refusal} {d : Read definition.Run} → Writes text before after p n r d → r ≡ Err f → d ≡ refused f.number f.mark
  unfolding seen_run written
  run_refused {d = got x} h e = let u = rw e at h.same in let z : ◌≡◌ {A = ℕ} 0 1 = cc in absurd (omega arith)
  run_refused {d = refused m k} h e = let u = rw e at h.same in cc

-- a text before what is read is written before it
pub written_before : (out : List ℕ) (k : ℕ) (t : List ℕ) (r : Read definition.Run) → written out k (before_read t r) ≡ written (sets out k (encode t)) (k + size t) r
unfolding written before_read
written_before out k t (got r) =
    let l = length-append (encode t) (encode r.text) in
    let e : k + length (encode t ++ encode r.text) ≡ k + size t + size r.text = omega arith in
    rw (encode_append t r.text, e, sets_join (encode t) (encode r.text) out k)
written_before out k t (refused n m) = refl
