-- What a simulation prints.
use Rattle.std.proofs.Common.{◌≡◌, ◌<◌, ◌+◌, ◌++◌, ◌∷◌, ◌∙◌, ℕ, zero, suc, List, [], refl, sym, ap, inl, inr, append-nil, append_assoc, arith, get_or, length, take}
use Rattle.std.proofs.lemmas.Bool.{cases_Bool}
use Rattle.bar_outside.specs.Ends.{Ends, IsFixed, SameFiles}
use Rattle.bar_outside.specs.Plan.{Outside, is_stop}
use Rattle.bar_outside.specs.Plan.Action.{show}
use Rattle.bar_outside.specs.Stages.{HasShown}
use Rattle.bar_outside.proofs.Unlinked.{same-traffic}
use Rattle.bar_world.specs.Ends.{sim_end}
use Rattle.bar_world.specs.Code.Shown.{IsEnd}
use Rattle.bar_world.specs.declared.sim_end.SimEnd.{SimEnd}
use Rattle.bar_cli.specs.Simulate.{end_view, played_line, played_lines, simulate_plan, simulation_text, text_of}
use Rattle.bar_cli.proofs.UpToLemmas.{begun-shows}

end-is : (seed : ℕ) (end : SimEnd) → IsEnd seed end → end_view end ≡ sim_end seed
end-is seed end h = rw (h.played, h.delivered, h.lost, h.repeated, h.evicted.all) refl

-- the text of an end that is the end of the seed's simulation
pub text-is : (seed : ℕ) (end : SimEnd) → IsEnd seed end → text_of (end_view end) ≡ simulation_text seed
unfolding simulation_text
text-is seed end h = ap text_of (end-is seed end h)

-- one more line
pub lines-more : (xs : List ℕ) (party i d : ℕ) → i < length xs →
    played_lines party (take (suc i) xs) ≡ played_lines party (take i xs) ++ played_line (party + i) (get_or xs i d)
lines-more [] party i d h = absurd (omega (arith, h))
lines-more (x ∷ xs) party zero d h = append-nil (played_line party x) ∙ ap (λ n. played_line n x) (omega arith)
lines-more (x ∷ xs) party (suc i) d h =
    let rest = lines-more xs (suc party) i d (omega (arith, h)) in
    ap (λ ys. played_line party x ++ ys) rest
    ∙ (sym (append_assoc (played_line party x) (played_lines (suc party) (take i xs)) (played_line (suc party + i) (get_or xs i d)))
    ∙ ap (λ n. (played_line party x ++ played_lines (suc party) (take i xs)) ++ played_line n (get_or xs i d)) (omega arith))

-- if no file was changed, a prefix of the text of a seed was printed, and all of it if nothing stopped the command
pub has-shown : (seed : ℕ) (old new : Outside) (status : ℕ) → SameFiles old new → Ends (simulate_plan seed) old new status →
    HasShown (simulation_text seed) 0 old new status
has-shown seed old new status same ends =
    let text : List ℕ = simulation_text seed in
    let is : IsFixed (simulate_plan seed) old.files.content = record { same = λ other. refl; unread = tt } in
    let d = ends.fixed_part is in
    let b = begun-shows (text ∷ []) d.done d.begun in
    record {
      files = same;
      wire = same-traffic (show text ∷ []) status old new tt d;
      front = (b.0, d.ran.out ∙ ap (λ bytes. old.out.bytes ++ bytes) (b.1 ∙ ap (take b.0) (append-nil text)));
      whole = λ go. (ends.fixed is go).ran.out ∙ ap (λ bytes. old.out.bytes ++ bytes) (append-nil text);
      ended = elim (cases_Bool (is_stop status)) [ inl stop ↦ inr stop | inr go ↦ inl (ends.fixed is go).is ];
    }
