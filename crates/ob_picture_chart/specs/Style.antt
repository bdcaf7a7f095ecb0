-- How the classes of shapes look.
use Rattle.std.specs.Prelude.{ℕ, List, ◌++◌, codes}

abbrev pub classes_text : List ℕ
classes_text = codes "<style>text{font:11px Menlo,Consolas,'DejaVu Sans Mono',monospace;fill:#1b1b1b;stroke:#fff;stroke-width:4px;stroke-linejoin:round;paint-order:stroke}.ground{fill:#fff}.head{font-size:13px;font-weight:bold}.bold{font-weight:bold}.faint{fill:#777}.middle{text-anchor:middle}.row{stroke:#bbb}.tick{stroke:#eee}.done{fill:#d3e6f8;stroke:#3d77ab}.trap{fill:#fbd9b5;stroke:#b3570b}.open{fill:#e9e9e9;stroke:#777}.trapped{fill:#a34a00}.help{stroke:#999;stroke-dasharray:4 3;shape-rendering:crispEdges}.step{fill:#444}.own{fill:#fff;stroke:#222}.helped{fill:#222;stroke:#222}.number{font-size:9px;text-anchor:middle;stroke:none}.light{fill:#fff}.before{fill:url(#before)}.behind{fill:url(#behind)}stop{stop-color:#fff}.clear{stop-opacity:0}.cross{stroke:#c21f1f;stroke-width:3}.marked{fill:#f8c4c4;stroke:#c21f1f}text.marked{fill:#b01010;stroke:#fff}</style>\n"

-- white that goes over into nothing, and nothing that goes over into white
abbrev pub before_text : List ℕ
before_text = codes "<linearGradient id=\"before\"><stop offset=\"0.2\"/><stop class=\"clear\" offset=\"1\"/></linearGradient>\n"

abbrev pub behind_text : List ℕ
behind_text = codes "<linearGradient id=\"behind\"><stop class=\"clear\" offset=\"0\"/><stop offset=\"0.9\"/></linearGradient>\n"

unfoldable pub style_text : List ℕ
style_text = classes_text ++ before_text ++ behind_text
