use Rattle.std.proofs.Common.{◌∷◌, []}
use Rattle.ac_calls.specs.Holdings.{listing_of}
use Rattle.ac_io.proofs.Telling.{adds_then}
use Rattle.ac_host.proofs.OneLine.{wrote_added, broke_added, broke_before_end, leaves_broken, listed_line}
use Rattle.ac_host.proofs.written.write_listing.Goals as goal

pub returns-in_err-listing : goal.returns-in_err-listing
returns-in_err-listing g c h there =
    leaves_broken _ _ _ _ c.from_residual-in_err-listing.result c.from_residual-in_err-listing.ensures.1
    (broke_before_end _ (10 ∷ []) (listed_line c.args.number (listing_of h) c.begin_line.new.text.items c.in_ok-begin_line.ensures)
    (c.in_err-listing.ensures.adds h there))

pub returns-in_err-add_last : goal.returns-in_err-add_last
returns-in_err-add_last g c h there =
    leaves_broken _ _ _ _ c.from_residual-in_err-add_last.result c.from_residual-in_err-add_last.ensures.1
    (broke_added _ (listed_line c.args.number (listing_of h) c.begin_line.new.text.items c.in_ok-begin_line.ensures)
    (adds_then (c.in_ok-listing.ensures.adds h there) c.in_err-add_last.ensures.adds))

pub returns : goal.returns
returns g c h there =
    wrote_added _ (listed_line c.args.number (listing_of h) c.begin_line.new.text.items c.in_ok-begin_line.ensures) c.in_ok-add_last.ensures.none
    (adds_then (c.in_ok-listing.ensures.adds h there) c.in_ok-add_last.ensures.adds)
