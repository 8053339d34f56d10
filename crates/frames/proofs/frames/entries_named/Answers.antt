use Rattle.std.proofs.Common.{rules, tests, ◌≡◌, sym, ap, ◌∙◌, ℕ}
use Rattle.std.proofs.lemmas.Iterator.{YieldsList-from_slice}
use Rattle.std.proofs.lemmas.Iterator.Search.{all_from_yields_List}
use Rattle.models.specs.Acceptance.{entry_declared}
use Rattle.frames.specs.Hex.{byte}
use Rattle.frames.proofs.Terms.{chunks, terms-tested, chunk-entry}
use Rattle.frames.proofs.frames.entries_named.Goals as goal

pub returns : goal.returns
returns c =
    let b = c.args.b.now in
    let h = c.args.h in
    let all : c.all.result ≡ _ = all_from_yields_List (λ t. entry_declared h (byte b 0) (byte t 0)) _ _ c.all.result c.all.ensures.ran (YieldsList-from_slice (chunks b) cc) (λ x r q k. search (rules, tests)) in
    all ∙ sym (terms-tested b _ _ (λ i d k. ap (λ (e : ℕ). entry_declared h (byte b 0) e) (sym (chunk-entry b i d k))))
