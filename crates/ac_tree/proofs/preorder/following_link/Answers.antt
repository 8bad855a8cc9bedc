use Rattle.std.proofs.Common.{sym, ◌∙◌}
use Rattle.ac_pool.specs.Link.{name_in}
use Rattle.ac_tree.proofs.Following.{follows_first, follows_behind, passes_next, passes_named}
use Rattle.ac_tree.proofs.preorder.following_link.Goals as goal

pub returns-then-leads : goal.returns-then-leads
returns-then-leads g c = follows_first c.args.links.now c.args.top c.args.link c.args.node.now c.requires.node (sym c.leads.ensures ∙ c.if-leads.true)

pub returns-then-leads-2 : goal.returns-then-leads-2
returns-then-leads-2 g c =
    let l = c.args.links.now in
    follows_behind l c.args.top c.args.link c.args.node.now (name_in l.nodes c.args.node.now.next) c.requires.node (sym c.leads.ensures ∙ c.if-leads.false)
    (passes_next l c.args.top c.args.link c.args.node.now c.requires.node (sym c.leads-2.ensures ∙ c.if-leads-2.true))

pub returns-in-Some : goal.returns-in-Some
returns-in-Some g c =
    let l = c.args.links.now in
    follows_behind l c.args.top c.args.link c.args.node.now (name_in l.nodes c.past.result) c.requires.node (sym c.leads.ensures ∙ c.if-leads.false)
    (passes_named l c.args.top c.args.link c.in-Some.name (name_in l.nodes c.past.result) (sym c.name_in.ensures ∙ c.in-Some.is) c.past.ensures)
