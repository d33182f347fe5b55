-- The elements of a picture, each whole: what is opened is closed behind its content.
use Rattle.std.specs.Prelude.{ℕ, ◌/◌, ◌%◌, codes}
use Rattle.abt_text.specs.Text.{Text, ◌⋅◌, decimal, newline}
use Rattle.abt_draw.specs.Escapes.{escaped}
use Rattle.abt_draw.specs.declared.point.Point.{Point}
use Rattle.abt_draw.specs.declared.point.Size.{Size}

-- a number of tenths, as a decimal fraction
abbrev pub tenths_text : ℕ → Text
tenths_text n = decimal (n / 10) ⋅ codes "." ⋅ decimal (n % 10)

-- a line from one point to another
abbrev pub line_text : (class : Text) → (from to : Point) → Text
line_text class from to = codes "<line class='" ⋅ escaped class ⋅ codes "' x1='" ⋅ tenths_text from.x ⋅ codes "' y1='" ⋅ tenths_text from.y
    ⋅ codes "' x2='" ⋅ tenths_text to.x ⋅ codes "' y2='" ⋅ tenths_text to.y ⋅ codes "'></line>" ⋅ newline

-- a rectangle, by its corner above on the left
abbrev pub rect_text : (class : Text) → Point → Size → Text
rect_text class at size = codes "<rect class='" ⋅ escaped class ⋅ codes "' x='" ⋅ tenths_text at.x ⋅ codes "' y='" ⋅ tenths_text at.y
    ⋅ codes "' width='" ⋅ tenths_text size.width ⋅ codes "' height='" ⋅ tenths_text size.height ⋅ codes "'></rect>" ⋅ newline

-- the beginnings of a line and of a rectangle, and what is told of an element
unfoldable pub line_start : (class : Text) → (from to : Point) → Text
line_start class from to = codes "<line class='" ⋅ escaped class ⋅ codes "' x1='" ⋅ tenths_text from.x ⋅ codes "' y1='" ⋅ tenths_text from.y
    ⋅ codes "' x2='" ⋅ tenths_text to.x ⋅ codes "' y2='" ⋅ tenths_text to.y ⋅ codes "'>"

unfoldable pub rect_start : (class : Text) → Point → Size → Text
rect_start class at size = codes "<rect class='" ⋅ escaped class ⋅ codes "' x='" ⋅ tenths_text at.x ⋅ codes "' y='" ⋅ tenths_text at.y
    ⋅ codes "' width='" ⋅ tenths_text size.width ⋅ codes "' height='" ⋅ tenths_text size.height ⋅ codes "'>"

unfoldable pub title_text : (told : Text) → Text
title_text told = codes "<title>" ⋅ escaped told ⋅ codes "</title>"

-- a line and a rectangle with what is told of them
abbrev pub told_line_text : (class : Text) → (from to : Point) → (told : Text) → Text
told_line_text class from to told = line_start class from to ⋅ title_text told ⋅ codes "</line>" ⋅ newline

abbrev pub told_rect_text : (class : Text) → Point → Size → (told : Text) → Text
told_rect_text class at size told = rect_start class at size ⋅ title_text told ⋅ codes "</rect>" ⋅ newline

abbrev pub circle_text : (class : Text) → Point → (radius : ℕ) → Text
circle_text class at radius = codes "<circle class='" ⋅ escaped class ⋅ codes "' cx='" ⋅ tenths_text at.x ⋅ codes "' cy='" ⋅ tenths_text at.y
    ⋅ codes "' r='" ⋅ tenths_text radius ⋅ codes "'></circle>" ⋅ newline

-- words
abbrev pub label_text : (class : Text) → Point → (words : Text) → Text
label_text class at words = codes "<text class='" ⋅ escaped class ⋅ codes "' x='" ⋅ tenths_text at.x ⋅ codes "' y='" ⋅ tenths_text at.y
    ⋅ codes "'>" ⋅ escaped words ⋅ codes "</text>" ⋅ newline

-- elements that belong together under a name, with the title that is told of them
abbrev pub group_text : (class name title content : Text) → Text
group_text class name title content = codes "<g class='" ⋅ escaped class ⋅ codes "' id='" ⋅ escaped name ⋅ codes "' tabindex='0'><title>"
    ⋅ escaped title ⋅ codes "</title>" ⋅ newline ⋅ content ⋅ codes "</g>" ⋅ newline

-- the beginning of a picture of a size
unfoldable pub opening_text : Size → Text
opening_text size = codes "<svg xmlns='http://www.w3.org/2000/svg' viewBox='0 0 " ⋅ tenths_text size.width ⋅ codes " " ⋅ tenths_text size.height
    ⋅ codes "' width='" ⋅ tenths_text size.width ⋅ codes "' height='" ⋅ tenths_text size.height
    ⋅ codes "' role='img' aria-labelledby='title' aria-describedby='description'>" ⋅ newline

-- its title and its description
unfoldable pub about_text : (title description : Text) → Text
about_text title description = codes "<title id='title'>" ⋅ escaped title ⋅ codes "</title>" ⋅ newline
    ⋅ codes "<desc id='description'>" ⋅ escaped description ⋅ codes "</desc>" ⋅ newline

-- how its shapes look
unfoldable pub style_text : (style : Text) → Text
style_text style = codes "<style>" ⋅ escaped style ⋅ codes "</style>" ⋅ newline

-- a whole picture of a size, with elements that its style names, and its own
abbrev pub document_text : Size → (title description style definitions content : Text) → Text
document_text size title description style definitions content =
    opening_text size ⋅ about_text title description ⋅ style_text style ⋅ definitions ⋅ content ⋅ codes "</svg>" ⋅ newline
