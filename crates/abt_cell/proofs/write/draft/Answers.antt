use Rattle.std.proofs.Common.{◌≡◌, ◌^◌, ◌<◌, ◌≤◌, ◌∙◌, ℕ, ap, subst}
use Rattle.abt_rate.specs.Code.{code_of}
use Rattle.abt_rate.specs.Rate.{units_of, IsCanonical}
use Rattle.abt_cell.specs.Channel.{Channel}
use Rattle.abt_cell.specs.Codec.{HasCode}
use Rattle.abt_cell.specs.Message.{Terms}
use Rattle.abt_cell.proofs.write.draft.Goals as goal

-- what `Rate::code` ensures of a rate, by the code that is computed
coded : (units code : ℕ) → code ≡ code_of units → units_of code ≡ units → IsCanonical code → ((other : ℕ) → IsCanonical other → units_of other ≡ units → other ≡ code) → HasCode units
coded units code is units_are canonical only = record {
  canonical = subst IsCanonical is canonical;
  units_are = subst (λ k. units_of k ≡ units) is units_are;
  only = λ other canonical_too same. only other canonical_too same ∙ is;
}

pub returns-clause-sayable : goal.returns-clause-sayable
returns-clause-sayable c =
    let request = c.request-request.ensures in
    let vc = c.vc.ensures ∙ ap (λ (t : Terms). t.vc) request in
    let ask = c.ask.ensures.value ∙ ap (λ (t : Terms). t.ask) request in
    let floor = c.floor.ensures.value ∙ ap (λ (t : Terms). t.floor) request in
    let seq = c.seq-seq.ensures.value ∙ ap (λ (t : Terms). t.seq) request in
    record {
      vpi = subst (λ (v : Channel). v.vpi < 2 ^ 12) vc c.header-header.ensures.fits.0;
      vci = subst (λ (v : Channel). v.vci < 2 ^ 16) vc c.header-header.ensures.fits.1;
      seq_positive = subst (λ n. 0 < n) seq c.seq-seq.ensures.positive;
      seq_fits = subst (λ n. n < 2 ^ 32) seq c.seq-seq.type_inv;
      order = subst (λ (t : Terms). t.floor ≤ t.ask) request c.ask.ensures.order;
      ask = subst HasCode ask (coded _ _ c.code-ask.ensures.value c.code-ask.ensures.units c.code-ask.ensures.canonical c.code-ask.ensures.only);
      floor = subst HasCode floor (coded _ _ c.code-floor.ensures.value c.code-floor.ensures.units c.code-floor.ensures.canonical c.code-floor.ensures.only);
    }
