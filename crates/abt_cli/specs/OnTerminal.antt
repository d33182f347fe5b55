-- Commands where the standard output is a terminal (docs/PICTURES.md, "As text").
use Rattle.std.specs.Prelude.{if◌then◌else◌, codes, string_bytes}
use Rattle.std.specs.Str.{bytes_eq}
use Rattle.abt_plans.specs.declared.picture.PictureForm.{PictureForm}
use Rattle.abt_plans.specs.declared.picture.PictureForm.TheVariants as form
use Rattle.abt_plans.specs.declared.picture.PicturePlan.{PicturePlan}
use Rattle.abt_cli.specs.declared.command.Command.{Command}
use Rattle.abt_cli.specs.declared.command.Command.TheVariants.{Draw}
use Rattle.abt_cli.specs.declared.command.DrawCommand.{DrawCommand}

-- what goes to the standard output, which is `-`, is drawn as text
abbrev pub form_on_terminal : PicturePlan → PictureForm
form_on_terminal picture = if bytes_eq (string_bytes picture.out) (codes "-") then form.Text else picture.form

abbrev pub picture_on_terminal : PicturePlan → PicturePlan
picture_on_terminal picture = record {
  out = picture.out;
  form = form_on_terminal picture;
  only = picture.only;
  from = picture.from;
  to = picture.to;
}

abbrev pub draw_on_terminal : DrawCommand → DrawCommand
draw_on_terminal command = record {
  file = command.file;
  workers = command.workers;
  events = command.events;
  picture = picture_on_terminal command.picture;
}

-- all else is carried out as it is elsewhere
abbrev pub on_terminal : Command → Command
on_terminal (Draw command) = Draw (draw_on_terminal command)
on_terminal other = other
