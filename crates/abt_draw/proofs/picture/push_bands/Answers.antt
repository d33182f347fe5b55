-- The bands of the ports are held when those of the sources were added.
use Rattle.abt_draw.proofs.Banded.{port_bands_still}
use Rattle.abt_draw.proofs.Within.{grows_on}
use Rattle.abt_draw.proofs.picture.push_bands.Goals as goal

pub returns-clause-grows : goal.returns-clause-grows
returns-clause-grows c = grows_on _ _ _ c.in_ok-push_axis.ensures (grows_on _ _ _ c.in_ok-base.ensures.grows c.in_ok-push_sources.ensures.grows)

pub returns-clause-bands : goal.returns-clause-bands
returns-clause-bands c = record {
  ports = port_bands_still c.args.sheet.now _ _ c.in_ok-push_sources.ensures.grows c.in_ok-base.ensures.bands;
  sources = c.in_ok-push_sources.ensures.bands;
}
