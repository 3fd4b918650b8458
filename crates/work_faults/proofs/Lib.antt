mod CodeLaws
