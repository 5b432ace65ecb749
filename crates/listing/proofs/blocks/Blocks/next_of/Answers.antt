use Rattle.std.proofs.Common.{rules, ◌∙◌, get_or, tests, sym, subst}
use Rattle.std.specs.Prelude.{ℕ, Option}
use Rattle.std.proofs.lemmas.Iterator.{YieldsList-from_slice, YieldsList-from_map}
use Rattle.std.proofs.lemmas.Iterator.Consumers.{YieldsList-from_filter, YieldsList-at, min_from_yields_List}
use Rattle.std.proofs.lemmas.Iterator.Adapters.{option_map_id}
use Rattle.listing.specs.Printed.{is_among}
use Rattle.listing.specs.Slices.{Next}
use Rattle.listing.specs.Laws.Blocks.{in_range, next-least}
use Rattle.listing.proofs.blocks.Blocks.next_of.Goals as goal

pub returns : goal.returns
returns c =
    let list = c.args.self.list.now in
    subst (λ (r : Option ℕ). Next (λ b. is_among list b c.args.regions.now) c.args.from c.args.self.count r)
    (sym (sym (option_map_id c.min.result) ∙ min_from_yields_List _ _ c.min.ensures.ran
    (YieldsList-from_filter _ (in_range c.args.from c.args.self.count)
    (YieldsList-at c.filter.ensures.source
    (YieldsList-from_map _ (λ x. get_or list x 0)
    (YieldsList-at c.map.ensures.source (YieldsList-from_slice c.args.regions.now cc))
    c.map.ensures.closure (λ x r q k. search (rules, tests)))) c.filter.ensures.closure (λ x r q k. search (rules, tests)))))
    (next-least list c.args.from c.args.self.count c.args.regions.now)
