mod SaleLaws
