-- Theorems about specs/Exactly, and what rests on them.
use Rattle.std.specs.Prelude.{◌+◌, ◌<◌, ℕ, List, ◌≡◌, length}
use Rattle.std.proofs.Common.{◌∙◌, ap, sym, zero-add, arith}
use Rattle.yaml_lexeme.specs.Token.{Token}
use Rattle.yaml_scan.specs.declared.Limits.{Limits}
use Rattle.yaml_stream.specs.Stream.{Next}
use Rattle.yaml_stream.specs.Tale.{built}
use Rattle.yaml_job.specs.declared.Closing.TheVariants.{Done}
use Rattle.yaml_job.specs.declared.JobAnswer.TheVariants.{Closed}
use Rattle.yaml_job.specs.declared.ShapePlace.TheVariants.{AtStart}
use Rattle.yaml_job.specs.Job.{Talk, follow, job, none_met}
use Rattle.yaml_job.specs.Reads.{End, Judgement, ends_done, judged}
use Rattle.yaml_job.proofs.ReadsLaws.{done_shape}
use Rattle.yaml_job.specs.Calls.{answer_of, judge}
use Rattle.yaml_job.specs.Done.{answer_done, heard_of, shape_end, talk_last, talk_length}
use Rattle.yaml_job.proofs.Done.{job_says}
use Rattle.yaml_job.specs.Exactly.{list_scalars, shape_scalars, Exact, exact_done, heard_tokens, Exactly}

pub done_exact : (ts : List Token) (a : Next) → (judged AtStart none_met ts a).end ≡ ends_done → Exact ts (judged AtStart none_met ts a)
done_exact ts a e =
    let s = done_shape ts a e in
    let x = shape_end s.1 in
    record {
      given = (x.0, s.0, x.1, x.2, x.3);
      none_refused = λ r k f. let z : ◌≡◌ {A = ℕ} 0 1 = cc in omega arith;
      as_many = sym (shape_scalars s.1);
    }

module _ (limits : Limits) (bytes : List ℕ) (words room k : ℕ) (enough : length (built limits bytes) < k) where
  abbrev its : Judgement
  its = judge AtStart none_met (heard_of limits bytes words room k)

  pub done_exactly : (n : ℕ) → (follow limits room k (job limits bytes words)).last ≡ Closed (Done n) → (Exactly limits bytes words room k enough) (follow limits room k (job limits bytes words))
  done_exactly n e =
      let j = job_says limits bytes words room k enough in
      let l = talk_last 0 its.values its.end in
      let d = answer_done (0 + length its.values) n its.end (sym l ∙ ap (λ (t : Talk). t.last) (sym j) ∙ e) in
      let x = done_exact (heard_tokens limits bytes words room k enough) (heard_of limits bytes words room k).last d.0 in
      record {
        end_given = x.given;
        not_refused = λ c i m f. let z : ◌≡◌ {A = ℕ} 0 1 = cc in omega arith;
        all_handed = ap (λ (t : Talk). length t.handed) j ∙ sym (talk_length 0 its.values its.end) ∙ x.as_many;
      }

  pub exactly_done : (Exactly limits bytes words room k enough) (follow limits room k (job limits bytes words))
      → (follow limits room k (job limits bytes words)).last ≡ Closed (Done (list_scalars (heard_tokens limits bytes words room k enough)))
  exactly_done x =
      let j = job_says limits bytes words room k enough in
      let l = ap (λ (t : Talk). t.last) j ∙ talk_last 0 its.values its.end in
      let n : length its.values ≡ list_scalars (heard_tokens limits bytes words room k enough) = talk_length 0 its.values its.end ∙ ap (λ (t : Talk). length t.handed) (sym j) ∙ x.all_handed in
      let e = exact_done (heard_tokens limits bytes words room k enough) (heard_of limits bytes words room k).last (record {
        given = x.end_given;
        none_refused = λ r m f. x.not_refused r (0 + length its.values) m (l ∙ ap (λ (d : End). answer_of (0 + length its.values) d) f);
        as_many = n;
      }) in
      l ∙ ap (λ (d : End). answer_of (0 + length its.values) d) e ∙ ap (λ (i : ℕ). Closed (Done i)) (zero-add (length its.values) ∙ n)
