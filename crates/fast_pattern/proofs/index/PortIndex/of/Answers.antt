-- The blocks that are chained are the entries' own, so they are below 131072, as the entries' are.
use Rattle.std.proofs.Common.{◌≡◌, ℕ, ◌<◌, List, All, sym, subst, ◌∙◌, ap}
use Rattle.std.proofs.lemmas.List.Elements.{All-map}
use Rattle.fast_pattern.specs.declared.index.IndexEntry.{IndexEntry}
use Rattle.fast_pattern.specs.Blocks.{blocks_of}
use Rattle.fast_pattern.proofs.index.PortIndex.of.Goals as goal

pub of-requires-clause-within : goal.of-requires-clause-within
of-requires-clause-within c =
    let is : c.deref-2.result.now ≡ blocks_of c.args.entries.items = c.deref-2.ensures.value ∙ c.in_ok-blocks.ensures ∙ ap blocks_of c.deref.ensures.value in
    let P : List ℕ → Type 0 = λ blocks. All (λ block. block < 131072) blocks in
    subst P (sym is) (All-map (λ block. block < 131072) (λ (entry : IndexEntry). entry.block) c.args.entries.items (λ k d h. (c.requires k d h).1))
