mod LayoutLaws
