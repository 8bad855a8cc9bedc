use Rattle.std.proofs.Common.{◌≡◌, ap, ◌∙◌, map}
use Rattle.ac_syntax.specs.Items.{declares, items, pragma_items}
use Rattle.ac_syntax.specs.Canonical.{with_last_line_feed, canonical_text}
use Rattle.ac_printer.specs.Page.{Page, blank_page, put_items}
use Rattle.ac_printer.proofs.PageTexts.{script_put}
use Rattle.ac_printer.proofs.script.print.Goals as goal

pub returns : goal.returns
returns c =
    let script = c.args.script.now in
    let pragma : c.put_pragma.new.page ≡ put_items blank_page (pragma_items script.pragma)
    = c.in_ok-put_pragma.ensures ∙ ap (λ (p : Page). put_items p (pragma_items script.pragma)) c.new-page.ensures in
    let decls : c.put_declarations.new.page ≡ put_items (put_items blank_page (pragma_items script.pragma)) (map declares script.decls)
    = c.in_ok-put_declarations.ensures ∙ ap (λ (p : Page). put_items p (map declares script.decls)) pragma in
    let page : c.put_statements.new.page ≡ put_items (put_items (put_items blank_page (pragma_items script.pragma)) (map declares script.decls)) (items script.stmts)
    = c.in_ok-put_statements.ensures ∙ ap (λ (p : Page). put_items p (items script.stmts)) decls in
    let whole : with_last_line_feed c.put_statements.new.page.text ≡ canonical_text script = ap (λ (p : Page). with_last_line_feed p.text) page ∙ script_put script in
    rw (← whole) c.finish.ensures
