mod SumLaws
